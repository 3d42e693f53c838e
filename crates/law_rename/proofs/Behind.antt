-- Pieces before and behind a place, and their bytes, where something is put there.
use Rattle.std.proofs.Common.{ℕ, zero, suc, ◌≡◌, ◌+◌, ◌-◌, ◌≤◌, List, [], ◌∷◌, ◌++◌, Option, Some, length, take, drop, refl, sym, ap, ◌∙◌, subst, arith}
use Rattle.std.proofs.Common.{drop-drop}
use Rattle.std.specs.Prelude.{option_map, slice_get}
use Rattle.std.specs.Cmp.{nat_cmp_is}
use Rattle.std.specs.List.{AllByRecursion}
use Rattle.std.specs.List.Sorted.{IsStrictlySortedBy}
use Rattle.std.specs.Ordering.{nat_cmp}
use Rattle.std.specs.declared.cmp.Ordering.TheVariants.{Equal, Less}
use Rattle.std.proofs.lemmas.List.{drop-append-le, length-drop, take-append-le}
use Rattle.std.proofs.lemmas.Option.{same_Some, slice_get-map}
use Rattle.base_lemmas.proofs.EachElement.{all_append}
use Rattle.go_scanner.specs.declared.piece.Piece.{Piece}
use Rattle.go_scanner.specs.Cuts.{bytes_of}
use Rattle.go_scanner.specs.Spans.{CoversFrom, starts}
use Rattle.go_respelled.specs.Literals.{shifted}
use Rattle.go_respelled.proofs.Spelled.{held_at}

-- where pieces lie

abbrev pub LiesBefore : ℕ → Piece → Type 0
LiesBefore place q = (q.span.start ≤ q.span.end) × (q.span.end ≤ place)

abbrev pub LiesBehind : ℕ → Piece → Type 0
LiesBehind place q = (place ≤ q.span.start) × (q.span.start ≤ q.span.end)

pub record AllLie (place from : ℕ) (before : List Piece) (after : List Piece) : Type 0 where
  pub order : from ≤ place
  pub all_before : AllByRecursion (LiesBefore place) before
  pub all_behind : AllByRecursion (LiesBehind place) after

behind : (place from to : ℕ) (ps : List Piece) → place ≤ from → CoversFrom from ps to → AllByRecursion (LiesBehind place) ps
behind place from to [] le covers = tt
behind place from to (p ∷ ps) le covers =
    ((omega (arith, covers.0), omega (arith, covers.0, covers.1)), behind place p.span.end to ps (omega (arith, covers.1)) covers.2)

pub all_lie : (from to : ℕ) (before after : List Piece) (p : Piece) → CoversFrom from (before ++ p ∷ after) to → AllLie p.span.start from before (p ∷ after)
all_lie from to [] after p covers = record {
  order = omega (arith, covers.0);
  all_before = tt;
  all_behind = behind p.span.start from to (p ∷ after) (omega (arith, covers.0)) covers;
}
all_lie from to (q ∷ before) after p covers =
    let rest = all_lie q.span.end to before after p covers.2 in
    record {
      order = omega (arith, covers.0, covers.1, rest.order);
      all_before = ((omega (arith, covers.0, covers.1), rest.order), rest.all_before);
      all_behind = rest.all_behind;
    }

-- their bytes

pub front_bytes : (front one other : List ℕ) (q : Piece) → LiesBefore (length front) q → bytes_of (front ++ one) q ≡ bytes_of (front ++ other) q
front_bytes front one other q lies = here one ∙ sym (here other)
  where
    here : (more : List ℕ) → bytes_of (front ++ more) q ≡ bytes_of front q
    here more =
        let start : q.span.start ≤ length front = omega (arith, lies.0, lies.1) in
        let size : q.span.end - q.span.start ≤ length (drop q.span.start front) = simp length-drop (omega (arith, lies.0, lies.1)) in
        ap (take (q.span.end - q.span.start)) (drop-append-le q.span.start front more start)
        ∙ take-append-le (q.span.end - q.span.start) (drop q.span.start front) more size

pub behind_bytes : (a b : ℕ) (text other : List ℕ) (q : Piece) → LiesBehind a q → drop a text ≡ drop b other →
    bytes_of other (shifted a b q) ≡ bytes_of text q
behind_bytes a b text other q lies same =
    let start : ℕ = q.span.start in
    let here : a + (start - a) ≡ start = omega (arith, lies.0) in
    let there : b + (start - a) ≡ start - a + b = omega arith in
    let size : q.span.end - a + b - (start - a + b) ≡ q.span.end - start = omega (arith, lies.0, lies.1) in
    let bytes : drop (start - a + b) other ≡ drop start text =
    ap (λ (k : ℕ). drop k other) (sym there) ∙ sym (drop-drop (start - a) b other) ∙ ap (drop (start - a)) (sym same) ∙ drop-drop (start - a) a text
    ∙ ap (λ (k : ℕ). drop k text) here in
    ap (λ (k : ℕ). take k (drop (start - a + b) other)) size ∙ ap (take (q.span.end - start)) bytes

-- A fact on each element of two lists is one on each element of their concatenation.

pub all_by : {X : Type 0} (P Q : X → Type 0) (xs : List X) → ((x : X) → P x → Q x) → AllByRecursion P xs → AllByRecursion Q xs
all_by P Q [] by all = tt
all_by P Q (x ∷ xs) by all = (by x all.0, all_by P Q xs by all.1)

-- a token has one number

not_below : (x : ℕ) → nat_cmp x x ≡ Less → ⊥
not_below x less = let wrong : Equal ≡ Less = nat_cmp_is x x Equal refl ∙ less in cc

stands_there : (low : List Piece) (t : Piece) (ts : List Piece) → slice_get (low ++ t ∷ ts) (length low) ≡ Some t
stands_there [] t ts = refl
stands_there (x ∷ low) t ts = stands_there low t ts

below_itself : (t x : Piece) (ts : List Piece) (n : ℕ) → AllByRecursion (λ y. nat_cmp x.span.start y ≡ Less) (starts ts) → slice_get ts n ≡ Some t →
    x.span.start ≡ t.span.start → ⊥
below_itself t x ts n all at same =
    let there : slice_get (starts ts) n ≡ Some t.span.start = slice_get-map (λ (q : Piece). q.span.start) ts n
    ∙ ap (λ (o : Option Piece). option_map (λ (q : Piece). q.span.start) o) at in
    let less = held_at (λ y. nat_cmp x.span.start y ≡ Less) (starts ts) n t.span.start all there in
    not_below t.span.start (subst (λ (k : ℕ). nat_cmp k t.span.start ≡ Less) same less)

pub only_number : (low : List Piece) (t : Piece) (ts : List Piece) (n : ℕ) → IsStrictlySortedBy nat_cmp (starts (low ++ t ∷ ts)) →
    slice_get (low ++ t ∷ ts) n ≡ Some t → n ≡ length low
unfolding IsStrictlySortedBy
only_number [] t ts zero rise at = refl
only_number [] t ts (suc n) rise at = absurd (below_itself t t ts n rise.0 at refl)
only_number (x ∷ low) t ts zero rise at =
    absurd (below_itself t x (low ++ t ∷ ts) (length low) rise.0 (stands_there low t ts) (ap (λ (q : Piece). q.span.start) (same_Some x t at)))
only_number (x ∷ low) t ts (suc n) rise at = ap suc (only_number low t ts n rise.1 at)
