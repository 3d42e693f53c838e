-- Hunks that hold each pair of two lines that differ.
use Rattle.std.proofs.Common.{◌<◌, ◌≤◌, ◌⊎◌, inl, inr, ℕ, List, [], ◌∷◌, ◌++◌, arith}
use Rattle.std.specs.List.{All}
use Rattle.std.proofs.lemmas.Bool.{cases_lt}
use Rattle.std.proofs.lemmas.List.Elements.{All-append, All-cons, All-nil, All-push, Contains-append_left, Contains-push}
use Rattle.std.proofs.lemmas.List.Quantifiers.{all_pairs_push}
use Rattle.base_files.specs.declared.place.Span.{Span}
use Rattle.tool_text.specs.Diff.{AreHunksWithin, AreHunksInOrder, IsEvenAt, IsInHunk}
use Rattle.tool_text.specs.declared.script.LinePair.{LinePair}

pub within_more : (count : ℕ) (hunks : List Span) (hunk : Span) → AreHunksWithin count hunks → hunk.start ≤ hunk.end → hunk.end ≤ count
    → AreHunksWithin count (hunks ++ hunk ∷ [])
within_more count hunks hunk h low high =
    let inside : Span → Type 0 = λ (one : Span). (one.start ≤ one.end) × (one.end ≤ count) in
    All-append inside hunks (hunk ∷ []) h (All-cons inside hunk [] (low, high) (All-nil inside))

-- the hunks before one that begins behind them all
pub ordered_more : (hunks : List Span) (hunk : Span) (from : ℕ) → AreHunksInOrder hunks → All (λ (one : Span). one.end ≤ from) hunks → from ≤ hunk.start
    → AreHunksInOrder (hunks ++ hunk ∷ [])
ordered_more hunks hunk from h before low =
    all_pairs_push (λ (one next : Span). one.end ≤ next.start) hunks hunk h
    (λ k d inside. let high = before k d inside in omega (arith, high, low))

pub before_more : (hunks : List Span) (hunk : Span) (from : ℕ) → All (λ (one : Span). one.end ≤ from) hunks → from ≤ hunk.end
    → All (λ (one : Span). one.end ≤ hunk.end) (hunks ++ hunk ∷ [])
before_more hunks hunk from before low =
    All-push (λ (one : Span). one.end ≤ hunk.end) hunks hunk (λ k d inside. let high = before k d inside in omega (arith, high, low)) (omega arith)

module _ (pairs : List LinePair) (hunks : List Span) (hunk : Span) (from first : ℕ) (start : hunk.start ≤ first)
    (others : (number : ℕ) → number < from → IsEvenAt pairs number ⊎ IsInHunk hunks number)
    (even : (number : ℕ) → from ≤ number → number < first → IsEvenAt pairs number) where
  later : (number : ℕ) → IsInHunk hunks number → IsInHunk (hunks ++ hunk ∷ []) number
  later number h = (h.0, Contains-append_left hunks (hunk ∷ []) h.0 h.1, h.2, h.3)

  pub covered_more : (number : ℕ) → number < hunk.end → IsEvenAt pairs number ⊎ IsInHunk (hunks ++ hunk ∷ []) number
  covered_more number h = elim (cases_lt number from) [
    | inl before ↦ elim (others number before) [
      | inl same ↦ inl same
      | inr held ↦ inr (later number held)
    ]
    | inr behind ↦ elim (cases_lt number first) [
      | inl same ↦ inl (even number behind same)
      | inr held ↦ let low : hunk.start ≤ number = omega (arith, start, held) in inr (hunk, Contains-push hunks hunk, low, h)
    ]
  ]

  -- behind the first pair that is left there is no other
  pub all_covered : (number : ℕ) → number < first → IsEvenAt pairs number ⊎ IsInHunk hunks number
  all_covered number h = elim (cases_lt number from) [
    | inl before ↦ others number before
    | inr behind ↦ inl (even number behind h)
  ]
