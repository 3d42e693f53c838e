-- The answers to the goals of `fault::sort`.
use Rattle.std.specs.Cmp.{eq_by_cmp_equiv}
use Rattle.std.proofs.Common.{refl}
use Rattle.std.proofs.lemmas.List.Filters.{dedup_is}
use Rattle.std.proofs.lemmas.List.Kept.{Contains-dedup, Contains-from_dedup, IsStrictlySortedBy-dedup}
use Rattle.std.proofs.lemmas.List.Sorted.{Contains-permutation, IsPermutation-sym}
use Rattle.workspace_check.specs.Faults.{fault_cmp_total}
use Rattle.workspace_check.proofs.FaultOrder.{same_fault}
use Rattle.workspace_check.proofs.fault.sort.Goals as goal

pub returns-clause-same : goal.returns-clause-same
returns-clause-same c = λ f.
    let is = dedup_is _ _ _ c.dedup.ensures.filtered in
    let moved = c.sort_unstable.ensures.permutation in (
      λ h. Contains-permutation _ _ f (IsPermutation-sym _ _ moved) (Contains-from_dedup _ _ f (rw is at h)),
      λ h. rw is (Contains-dedup (eq_by_cmp_equiv fault_cmp_total) same_fault _ f (Contains-permutation _ _ f moved h)),
    )

pub returns-clause-order : goal.returns-clause-order
returns-clause-order c =
    let is = dedup_is _ _ _ c.dedup.ensures.filtered in
    rw is (IsStrictlySortedBy-dedup fault_cmp_total (λ x y. refl) _ c.sort_unstable.ensures.sorted)
