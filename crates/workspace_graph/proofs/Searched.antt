-- What a search among numbers that rise finds.
use Rattle.std.proofs.Common.{ℕ, ◌≡◌, ◌<◌, ◌≤◌, ◌↔◌, inl, inr, Bool, List, length, get_or, sym, ◌∙◌, arith, Result, Ok, Err, is_ok, IsTrue, MatchResult}
use Rattle.std.specs.List.{Contains}
use Rattle.std.specs.List.Sorted.{IsBinarySearchResult, IsStrictlyIncreasing}
use Rattle.std.specs.Ordering.{nat_cmp}
use Rattle.std.proofs.lemmas.Bool.{cases_lt, true≢false}
use Rattle.std.proofs.lemmas.List.{get_or_default}
use Rattle.std.proofs.lemmas.List.Sorted.{searched}
use Rattle.std.proofs.lemmas.Map.Keys.{non_decreasing_from_sorted, sorted_from_strictly_increasing}

among_by : (xs : List ℕ) (x : ℕ) (r : Result ℕ ℕ) (b : Bool) →
    MatchResult r (λ i. (i < length xs) × (get_or xs i 0 ≡ x))
    (λ i. (i ≤ length xs) × ((k : ℕ) → k < i → get_or xs k 0 < x) × ((k : ℕ) → i ≤ k → k < length xs → x < get_or xs k 0)) →
    b ≡ is_ok r → IsTrue b ↔ Contains xs x
among_by xs x (Ok i) b s e = (λ t. (i, s.0, get_or_default xs i x 0 s.0 ∙ s.1), λ h. e)
among_by xs x (Err i) b s e = (
  λ t. absurd (true≢false (sym t ∙ e)),
  λ h.
      let lt : h.0 < length xs = h.1 in
      let at : get_or xs h.0 0 ≡ x = get_or_default xs h.0 0 x lt ∙ h.2 in
      elim (cases_lt h.0 i) [
        | inl below ↦ (let less : get_or xs h.0 0 < x = s.1 h.0 below in absurd (omega arith))
        | inr above ↦ (let more : x < get_or xs h.0 0 = s.2 h.0 above lt in absurd (omega arith))
      ],
)

pub among : (xs : List ℕ) (x : ℕ) (r : Result ℕ ℕ) (b : Bool) → IsStrictlyIncreasing xs → IsBinarySearchResult (λ y. nat_cmp y x) xs r → b ≡ is_ok r →
    IsTrue b ↔ Contains xs x
among xs x r b up is e =
    among_by xs x r b (searched xs x r is (λ i j le lt. non_decreasing_from_sorted xs (sorted_from_strictly_increasing xs up) i j 0 le lt)) e
