-- The first of the numbers that have a property.
use Rattle.std.proofs.Common.{ℕ, zero, suc, ◌≡◌, ◌<◌, ◌⊎◌, inl, inr, subst, arith}
use Rattle.std.proofs.lemmas.Bool.{cases_lt}
use Rattle.refactor_conflict.specs.MembersAfter.{IsFirst}

module _ (K : ℕ → Type 0) (decide : (n : ℕ) → K n ⊎ (K n → ⊥)) where
  first_below : (n : ℕ) → ((m : ℕ) × IsFirst K m) ⊎ ((j : ℕ) → j < n → K j → ⊥)
  first_below zero = inr (λ j lt k. let less : j < 0 = lt in absurd (omega (arith, less)))
  first_below (suc n) = elim (first_below n) [
    | inl found ↦ inl found
    | inr none ↦ elim (decide n) [
      | inl here ↦ inl (n, record { has = here; first = none })
      | inr other ↦ inr (λ j lt k. elim (cases_lt j n) [
        | inl less ↦ none j less k
        | inr ge ↦ (let below : j < suc n = lt in let same : j ≡ n = omega (arith, below, ge) in other (subst K same k))
      ])
    ]
  ]

  -- If some number has a property that is decided of each, a first number has it.
  pub first_of_some : (n : ℕ) → K n → (m : ℕ) × IsFirst K m
  first_of_some n h = elim (first_below (suc n)) [
    | inl found ↦ found
    | inr none ↦ absurd (none n (omega arith) h)
  ]
