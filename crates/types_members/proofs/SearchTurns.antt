-- A number that a search finds is no longer among those not found.
use Rattle.std.proofs.Common.{◌≡◌, ℕ, ◌+◌, ◌<◌, ◌==◌, cond, List, Some, ap, ◌∙◌, refl, arith}
use Rattle.std.proofs.Math.ListN.{set}
use Rattle.std.specs.List.{count_by, slice_get}
use Rattle.std.proofs.lemmas.Bool.{ne_eqb}
use Rattle.std.proofs.lemmas.List.Sums.{sum_by-set}
use Rattle.std.proofs.lemmas.Option.{get_or_from_slice_get, slice_get_within}

-- 1 for a number not found yet
weight : ℕ → ℕ
weight turn = cond (turn == 0) 1 0

found_weight : (turn : ℕ) → 0 < turn → weight turn ≡ 0
unfolding weight
found_weight turn positive = ap (λ b. cond b 1 0) (ne_eqb turn 0 (λ same. omega (arith, same, positive)))

missing_weight : weight 0 ≡ 1
unfolding weight
missing_weight = refl

pub found_one : (turns : List ℕ) (n turn : ℕ) → slice_get turns n ≡ Some 0 → 0 < turn →
    count_by (λ t. t == 0) (set turns n turn) + 1 ≡ count_by (λ t. t == 0) turns
unfolding weight
found_one turns n turn missing positive =
    let read = ap weight (get_or_from_slice_get turns n 0 0 missing) ∙ missing_weight in
    let moved = sum_by-set weight turns n turn 0 (slice_get_within turns n 0 missing) in
    let none = found_weight turn positive in
    omega (arith, read, moved, none)
