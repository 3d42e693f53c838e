-- The first of the members that have a name after a rename: those that had it, and the renamed one.
use Rattle.std.proofs.Common.{ℕ, ◌≡◌, ◌<◌, ◌⊎◌, inl, inr, arith}
use Rattle.std.specs.Prelude.{Option, Some, None}
use Rattle.std.proofs.lemmas.Bool.{cond_both, leb-true, leb-false}
use Rattle.refactor_conflict.specs.MembersAfter.{IsFirst}
use Rattle.refactor_conflict.specs.MembersFound.{IsRankFound}
use Rattle.refactor_members.specs.Naming.{lesser_rank, IsFirstOld}

module _ (After Old Is : ℕ → Type 0) (split : (k : ℕ) → After k → Is k ⊎ Old k) (is_after : (k : ℕ) → Is k → After k)
    (old_after : (k : ℕ) → Old k → After k) (one : (j k : ℕ) → Is j → Is k → j ≡ k) where
  none_before_old : (a : ℕ) → IsFirst Old a → (other : ℕ) → other < a → Old other → ⊥
  none_before_old a h other lt old = h.first other lt old

  none_before_renamed : (b : ℕ) → Is b → (other : ℕ) → other < b → Is other → ⊥
  none_before_renamed b h other lt is = let same : other ≡ b = one other b is h in let less : other < b = lt in absurd (omega arith)

  pub first_of_two : (a b : Option ℕ) → IsFirstOld Old a → IsRankFound Is b → IsRankFound (IsFirst After) (lesser_rank a b)
  first_of_two None None h k = λ n after. elim (split n after.has) [ inl is ↦ k n is | inr old ↦ h n old ]
  first_of_two None (Some b) h k = record {
    has = is_after b k;
    first = λ other lt after. elim (split other after) [ inl is ↦ none_before_renamed b k other lt is | inr old ↦ h other old ];
  }
  first_of_two (Some a) None h k = record {
    has = old_after a h.has;
    first = λ other lt after. elim (split other after) [ inl is ↦ k other is | inr old ↦ none_before_old a h other lt old ];
  }
  first_of_two (Some a) (Some b) h k =
      cond_both _ (Some a) (Some b) (IsRankFound (IsFirst After))
      (λ is. record {
        has = old_after a h.has;
        first = λ other lt after. elim (split other after) [
          | inl renamed ↦ (let le = leb-true a b is in none_before_renamed b k other (let less : other < a = lt in omega (arith, less, le)) renamed)
          | inr old ↦ none_before_old a h other lt old
        ];
      })
      (λ is. record {
        has = is_after b k;
        first = λ other lt after. elim (split other after) [
          | inl renamed ↦ none_before_renamed b k other lt renamed
          | inr old ↦ (let gt = leb-false a b is in none_before_old a h other (let less : other < b = lt in omega (arith, less, gt)) old)
        ];
      })
