-- How pieces that stand one behind another lie.
use Rattle.std.proofs.Common.{ℕ, ◌≡◌, ◌⊎◌, ◌+◌, ◌<◌, ◌≤◌, List, [], ◌∷◌, ◌++◌, take, drop, refl, sym, ap, ◌∙◌, subst, arith, inl, inr, ⊎_elim}
use Rattle.std.proofs.Common.{take-append-drop}
use Rattle.std.specs.Prelude.{map}
use Rattle.std.specs.List.{Contains}
use Rattle.std.proofs.lemmas.List.{drop_more}
use Rattle.base_lemmas.proofs.Elements.{first_or_later, nothing_in}
use Rattle.go_scanner.specs.declared.piece.Piece.{Piece}
use Rattle.go_scanner.specs.Spans.{CoversFrom}

-- what is before one of a list, and what is behind it
pub record Parts {X : Type 0} (xs : List X) (x : X) : Type 0 where
  pub before : List X
  pub after : List X
  pub whole : xs ≡ before ++ x ∷ after

pub parts : {X : Type 0} (xs : List X) (x : X) → Contains xs x → Parts xs x
parts xs x has = record {
  before = take has.0 xs;
  after = drop (has.0 + 1) xs;
  whole = sym (take-append-drop has.0 xs) ∙ ap (λ l. take has.0 xs ++ l) (drop_more xs has.0 x has.1 ∙ ap (λ y. y ∷ drop (has.0 + 1) xs) has.2);
}

pub covers_on : (from to : ℕ) (ps : List Piece) → CoversFrom from ps to → from ≤ to
covers_on from to [] covers = omega (arith, covers)
covers_on from to (p ∷ ps) covers = omega (arith, covers.1, covers_on p.span.end to ps covers.2)

pub covers_parts : (from to : ℕ) (before after : List Piece) (p : Piece) → CoversFrom from (before ++ p ∷ after) to →
    (CoversFrom from before p.span.start) × (p.span.start < p.span.end) × CoversFrom p.span.end after to
covers_parts from to [] after p covers = (sym covers.0, omega (arith, covers.0, covers.1), covers.2)
covers_parts from to (q ∷ before) after p covers =
    let rest = covers_parts q.span.end to before after p covers.2 in ((covers.0, covers.1, rest.0), rest.1, rest.2)

-- two functions that agree on the pieces of a range
pub map_agree : (f g : Piece → Piece) (from to : ℕ) (ps : List Piece) → CoversFrom from ps to →
    ((p : Piece) → from ≤ p.span.start → p.span.start < p.span.end → p.span.end ≤ to → f p ≡ g p) → map f ps ≡ map g ps
map_agree f g from to [] covers agree = refl
map_agree f g from to (p ∷ ps) covers agree =
    let low : from ≤ p.span.start = omega (arith, covers.0) in
    let some : p.span.start < p.span.end = omega (arith, covers.0, covers.1) in
    let first : f p ≡ g p = agree p low some (covers_on p.span.end to ps covers.2) in
    let rest : map f ps ≡ map g ps = map_agree f g p.span.end to ps covers.2 (λ q behind more within. agree q (omega (arith, low, some, behind)) more within) in
    λ i. first i ∷ rest i

pub begins_behind : (from to : ℕ) (ps : List Piece) (q : Piece) → CoversFrom from ps to → Contains ps q → (from ≤ q.span.start) × (q.span.start < q.span.end) ×
    (q.span.end ≤ to)
begins_behind from to [] q covers has = absurd (nothing_in q has)
begins_behind from to (p ∷ ps) q covers has =
    ⊎_elim
    (λ (here : p ≡ q). subst (λ (x : Piece). (from ≤ x.span.start) × (x.span.start < x.span.end) × (x.span.end ≤ to)) here
    (omega (arith, covers.0), omega (arith, covers.0, covers.1), covers_on p.span.end to ps covers.2))
    (λ (later : Contains ps q). let rest = begins_behind p.span.end to ps q covers.2 later in (omega (arith, covers.1, rest.0), rest.1, rest.2))
    (first_or_later p ps q has)

-- two of them are one, or lie apart
pub apart : (from to : ℕ) (ps : List Piece) (p q : Piece) → CoversFrom from ps to → Contains ps p → Contains ps q →
    (p ≡ q) ⊎ ((p.span.end ≤ q.span.start) ⊎ (q.span.end ≤ p.span.start))
apart from to [] p q covers one other = absurd (nothing_in p one)
apart from to (x ∷ ps) p q covers one other =
    ⊎_elim
    (λ (first : x ≡ p). ⊎_elim
    (λ (second : x ≡ q). inl (sym first ∙ second))
    (λ (later : Contains ps q). inr (inl (subst (λ (y : Piece). y.span.end ≤ q.span.start) first (begins_behind x.span.end to ps q covers.2 later).0)))
    (first_or_later x ps q other))
    (λ (later : Contains ps p). ⊎_elim
    (λ (second : x ≡ q). inr (inr (subst (λ (y : Piece). y.span.end ≤ p.span.start) second (begins_behind x.span.end to ps p covers.2 later).0)))
    (λ (also : Contains ps q). apart x.span.end to ps p q covers.2 later also)
    (first_or_later x ps q other))
    (first_or_later x ps p one)
