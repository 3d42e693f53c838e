-- Rows that lie one behind another in one list.
use Rattle.std.proofs.Common.{◌≡◌, ℕ, zero, suc, ◌+◌, ◌-◌, ◌<◌, ◌≤◌, List, [], ◌∷◌, ◌++◌, length, get_or, take, drop, refl, sym, ap, subst, ◌∙◌, inl, inr}
use Rattle.std.proofs.Common.{arith}
use Rattle.std.specs.List.{slice_range}
use Rattle.std.proofs.Math.Seq.{drop-append_seam}
use Rattle.std.proofs.lemmas.Bool.{cases_lt}
use Rattle.std.proofs.lemmas.List.{drop-append-le, length-append, length-drop, length-take-le, take-append-drop}
use Rattle.std.proofs.lemmas.List.{take-append-le, take_all}
use Rattle.workspace_graph.specs.Imports.{LinkTable, row_of}
use Rattle.workspace_graph.specs.LinkRows.{rows_of, last_bound, AreBounds}

-- one row fewer than bounds
pub rows_size : (bs ns : List ℕ) → length (rows_of bs ns) ≡ length bs - 1
rows_size [] ns = refl
rows_size (a ∷ []) ns = refl
rows_size (a ∷ b ∷ bs) ns = let rest = rows_size (b ∷ bs) ns in omega arith

-- a row stands between its bounds
pub row_between : (bs ns : List ℕ) (i : ℕ) → i + 1 < length bs → row_of (rows_of bs ns) i ≡ slice_range ns (get_or bs i 0) (get_or bs (i + 1) 0)
row_between [] ns i lt = absurd (omega arith)
row_between (a ∷ []) ns i lt = absurd (omega arith)
row_between (a ∷ b ∷ bs) ns zero lt = refl
row_between (a ∷ b ∷ bs) ns (suc i) lt =
    let next : suc i + 1 ≡ suc (i + 1) = omega arith in
    row_between (b ∷ bs) ns i (omega arith) ∙ ap (λ k. slice_range ns (get_or (b ∷ bs) i 0) (get_or (a ∷ b ∷ bs) k 0)) (sym next)

-- the number of a row is that of a bound that another follows
pub number_within : (bs ns : List ℕ) (g : LinkTable) (i : ℕ) → rows_of bs ns ≡ g → i < length g → i + 1 < length bs
number_within bs ns g i is lt = let size = rows_size bs ns in let same = ap length is in omega arith

-- the bounds of a row don't fall, within the list
pub bounds_rise : (bs ns : List ℕ) (i : ℕ) → AreBounds bs ns → i + 1 < length bs → get_or bs i 0 ≤ get_or bs (i + 1) 0
bounds_rise bs ns i are lt = are.rising i (i + 1) (omega arith) lt

pub bounds_fit : (bs ns : List ℕ) (i : ℕ) → AreBounds bs ns → i < length bs → get_or bs i 0 ≤ length ns
bounds_fit bs ns i are lt = let last = are.rising i (length bs - 1) (omega arith) (omega arith) in omega (arith, are.within)

-- what ends within the front of a list stands there
front_append : (xs ys : List ℕ) (a b : ℕ) → b ≤ length xs → slice_range (xs ++ ys) a b ≡ slice_range xs a b
front_append xs ys a b le = elim (cases_lt b a) [
  | inl lt ↦ (let none : b - a ≡ 0 = omega arith in
      ap (λ k. take k (drop a (xs ++ ys))) none ∙ sym (ap (λ k. take k (drop a xs)) none))
  | inr ge ↦ (let long = length-drop a xs in
      ap (take (b - a)) (drop-append-le a xs ys (omega arith)) ∙ take-append-le (b - a) (drop a xs) ys (omega arith))
]

pub front_range : (ns row : List ℕ) (a b n : ℕ) → b ≤ n → n ≤ length ns → slice_range (take n ns ++ row) a b ≡ slice_range ns a b
front_range ns row a b n le within =
    let size = length-take-le n ns within in
    front_append (take n ns) row a b (omega arith)
    ∙ (sym (front_append (take n ns) (drop n ns) a b (omega arith)) ∙ ap (λ l. slice_range l a b) (take-append-drop n ns))

-- The items appended to a list.
back_range : (xs row : List ℕ) (n : ℕ) → length xs ≡ n → slice_range (xs ++ row) n (n + length row) ≡ row
back_range xs row n size =
    let behind : drop n (xs ++ row) ≡ row = ap (λ k. drop k (xs ++ row)) (sym size) ∙ drop-append_seam xs row in
    ap (take (n + length row - n)) behind ∙ take_all (n + length row - n) row (omega arith)

-- one more row behind the last bound
pub rows_push : (bs ns row : List ℕ) (n : ℕ) → 0 < length bs → last_bound bs ≡ n → n ≤ length ns → ((i : ℕ) → i < length bs → get_or bs i 0 ≤ n) →
    rows_of (bs ++ (n + length row) ∷ []) (take n ns ++ row) ≡ rows_of bs ns ++ row ∷ []
rows_push [] ns row n some last within below = absurd (omega arith)
rows_push (a ∷ []) ns row n some last within below =
    let here = back_range (take n ns) row n (length-take-le n ns within) in
    ap (λ r. r ∷ []) (subst (λ k. slice_range (take n ns ++ row) k (n + length row) ≡ row) (sym last) here)
rows_push (a ∷ b ∷ bs) ns row n some last within below =
    let next : length (a ∷ b ∷ bs) - 1 ≡ suc (length (b ∷ bs) - 1) = omega arith in
    let last_there : last_bound (b ∷ bs) ≡ n = subst (λ k. get_or (a ∷ b ∷ bs) k 0 ≡ n) next last in
    let rest = rows_push (b ∷ bs) ns row n (omega arith) last_there within (λ i lt. below (suc i) (omega arith)) in
    ap (λ r. r ∷ rows_of (b ∷ (bs ++ (n + length row) ∷ [])) (take n ns ++ row)) (front_range ns row a b n (below 1 (omega arith)) within)
    ∙ ap (λ g. slice_range ns a b ∷ g) rest

-- A row appended behind the last of valid bounds is one more row.
pub row_added : (bs ns row : List ℕ) → AreBounds bs ns →
    rows_of (bs ++ (last_bound bs + length row) ∷ []) (take (last_bound bs) ns ++ row) ≡ rows_of bs ns ++ row ∷ []
row_added bs ns row are =
    let some = are.some in
    rows_push bs ns row (last_bound bs) are.some refl are.within (λ i lt. are.rising i (length bs - 1) (omega arith) (omega arith))

-- A row appended to the numbers is one more row, by the length of the numbers.
pub row_ends : (bs ns new row : List ℕ) (g : LinkTable) (end : ℕ) → AreBounds bs ns → rows_of bs ns ≡ g → new ≡ take (last_bound bs) ns ++ row →
    end ≡ length new →
    rows_of (bs ++ end ∷ []) new ≡ g ++ row ∷ []
row_ends bs ns new row g end are view is at =
    let size = length-take-le (last_bound bs) ns are.within in
    let long = length-append (take (last_bound bs) ns) row in
    let same = ap length is in
    let last : end ≡ last_bound bs + length row = omega (arith, size, long, same, at) in
    ap (λ (l : List ℕ). rows_of (bs ++ end ∷ []) l) is
    ∙ (ap (λ (k : ℕ). rows_of (bs ++ k ∷ []) (take (last_bound bs) ns ++ row)) last
    ∙ (row_added bs ns row are ∙ ap (λ h. h ++ row ∷ []) view))
