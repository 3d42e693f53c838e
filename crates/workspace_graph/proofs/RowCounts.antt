-- How many numbers rows have that lie one behind another: as many as lie between the first bound and the last.
use Rattle.std.proofs.Common.{◌≡◌, ℕ, suc, ◌+◌, ◌-◌, ◌<◌, ◌≤◌, List, [], ◌∷◌, length, get_or, take, drop, refl, ap, ◌∙◌, arith}
use Rattle.std.specs.List.{slice_range, sum_by}
use Rattle.std.proofs.lemmas.List.{length-drop, length-take-le}
use Rattle.std.proofs.lemmas.List.Sums.{sum_by-cons}
use Rattle.workspace_graph.specs.LinkRows.{rows_of, last_bound, AreBounds}

-- a row between two bounds has as many numbers as lie between them
row_long : (ns : List ℕ) (a b : ℕ) → a ≤ b → b ≤ length ns → length (slice_range ns a b) ≡ b - a
row_long ns a b le within = let rest = length-drop a ns in length-take-le (b - a) (drop a ns) (omega arith)

counted : (bs ns : List ℕ) → 0 < length bs → ((i j : ℕ) → i ≤ j → j < length bs → get_or bs i 0 ≤ get_or bs j 0) → last_bound bs ≤ length ns →
    sum_by (λ (row : List ℕ). length row) (rows_of bs ns) + get_or bs 0 0 ≡ last_bound bs
counted [] ns some rising within = absurd (omega arith)
counted (a ∷ []) ns some rising within = omega arith
counted (a ∷ b ∷ bs) ns some rising within =
    let next : length (a ∷ b ∷ bs) - 1 ≡ suc (length (b ∷ bs) - 1) = omega arith in
    let last : last_bound (a ∷ b ∷ bs) ≡ last_bound (b ∷ bs) = ap (λ k. get_or (a ∷ b ∷ bs) k 0) next in
    let rest = counted (b ∷ bs) ns (omega arith) (λ i j le lt. rising (suc i) (suc j) (omega arith) (omega arith)) (omega (arith, last, within)) in
    let up = rising 0 1 (omega arith) (omega arith) in
    let far = rising 1 (length (a ∷ b ∷ bs) - 1) (omega arith) (omega arith) in
    let long = row_long ns a b up (omega (arith, far, within)) in
    let sum = sum_by-cons (λ (row : List ℕ). length row) (slice_range ns a b) (rows_of (b ∷ bs) ns) in
    omega (arith, last, rest, up, long, sum)

pub all_counted : (bs ns : List ℕ) → AreBounds bs ns → sum_by (λ (row : List ℕ). length row) (rows_of bs ns) + get_or bs 0 0 ≡ last_bound bs
all_counted bs ns are = counted bs ns are.some are.rising are.within

pub first_below : (bs ns : List ℕ) → AreBounds bs ns → get_or bs 0 0 ≤ last_bound bs
first_below bs ns are = are.rising 0 (length bs - 1) (omega arith) (let some = are.some in omega arith)
