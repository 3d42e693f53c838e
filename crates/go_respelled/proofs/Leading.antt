-- The pieces that lead up to one, and how it stands.
use Rattle.std.proofs.Common.{ℕ, ◌≡◌, ◌-◌, ◌≤◌, Bool, true, false, cond, List, [], ◌∷◌, ◌++◌, drop, length, refl, sym, ap, subst}
use Rattle.std.specs.Prelude.{nat_eq}
use Rattle.std.specs.List.{starts_with}
use Rattle.go_scanner.specs.declared.piece.Class.TheVariants as class
use Rattle.go_scanner.specs.declared.piece.Piece.{Piece}
use Rattle.go_scanner.specs.Cuts.{IsCut, CutsTo, CutsUpTo, byte_order_mark}
use Rattle.go_scanner.specs.Pieces.{Stands}

pub record StandsAt (text : List ℕ) (from : ℕ) (before : List Piece) (p : Piece) : Type 0 where
  pub leads : CutsTo text from before p.span.start
  pub order : p.span.start ≤ p.span.end
  pub stands : Stands (drop p.span.start text) p.class (p.span.end - p.span.start)

stands_in : (text : List ℕ) (from to : ℕ) (before after : List Piece) (p : Piece) → CutsTo text from (before ++ p ∷ after) to → StandsAt text from before p
stands_in text from to [] after p cut = record {
  leads = sym cut.0;
  order = subst (λ (k : ℕ). k ≤ p.span.end) (sym cut.0) cut.1;
  stands = subst (λ (k : ℕ). Stands (drop k text) p.class (p.span.end - k)) (sym cut.0) cut.2;
}
stands_in text from to (q ∷ before) after p cut =
    let rest = stands_in text q.span.end to before after p cut.3 in
    record { leads = (cut.0, cut.1, cut.2, rest.leads); order = rest.order; stands = rest.stands }

-- a piece of a cut that is no mark of the byte order
pub record StandsBehind (text : List ℕ) (before : List Piece) (p : Piece) : Type 0 where
  pub leads : CutsUpTo text before p.span.start
  pub order : p.span.start ≤ p.span.end
  pub stands : Stands (drop p.span.start text) p.class (p.span.end - p.span.start)

abbrev mark : Piece
mark = record { class = class.ByteOrderMark; span = record { start = 0; end = 3 } }

abbrev marks : Bool → List Piece
marks m = cond m (mark ∷ []) []

abbrev size_of : Bool → ℕ
size_of m = cond m 3 0

record Behind (text : List ℕ) (m : Bool) (before : List Piece) (p : Piece) : Type 0 where
  rest : List Piece
  before_is : before ≡ marks m ++ rest
  stands : StandsAt text (size_of m) rest p

behind : (text : List ℕ) (m : Bool) (before after rest : List Piece) (p : Piece) (to : ℕ) → (p.class ≡ class.ByteOrderMark → ⊥) →
    before ++ p ∷ after ≡ marks m ++ rest → CutsTo text (size_of m) rest to → Behind text m before p
behind text false before after rest p to other same cut =
    record { rest = before; before_is = refl; stands = stands_in text 0 to before after p (subst (λ l. CutsTo text 0 l to) (sym same) cut) }
behind text true [] after rest p to other same cut = let first : p ≡ mark = cc in absurd (other (ap (λ (q : Piece). q.class) first))
behind text true (b ∷ before) after rest p to other same cut =
    let first : b ≡ mark = cc in
    let more : before ++ p ∷ after ≡ rest = cc in
    record {
      rest = before;
      before_is = ap (λ q. q ∷ before) first;
      stands = stands_in text 3 to before after p (subst (λ l. CutsTo text 3 l to) (sym more) cut);
    }

pub stands_behind : (text : List ℕ) (before after : List Piece) (p : Piece) → (p.class ≡ class.ByteOrderMark → ⊥) → IsCut text (before ++ p ∷ after) →
    StandsBehind text before p
stands_behind text before after p other whole =
    let found = behind text (starts_with nat_eq text byte_order_mark) before after whole.cut.0 p (length text) other whole.cut.1 whole.cut.2 in
    record { leads = (found.rest, found.before_is, found.stands.leads); order = found.stands.order; stands = found.stands.stands }
