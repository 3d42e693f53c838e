-- The answers to the goals of `paths::sort`.
use Rattle.std.proofs.Common.{rules}
use Rattle.std.specs.Cmp.Rules.{comparing}
use Rattle.std.specs.Cmp.Lexicographic.{bytes_decides}
use Rattle.std.proofs.lemmas.List.Filters.{dedup_is}
use Rattle.std.proofs.lemmas.List.Kept.{Contains-dedup, Contains-from_dedup, IsStrictlySortedBy-dedup}
use Rattle.std.proofs.lemmas.List.Sorted.{Contains-permutation, IsPermutation-sym}
use Rattle.base_files.proofs.WorkspaceLaws.{path_cmp_total}
use Rattle.refactor_rename.proofs.paths.sort.Goals as goal

pub returns-clause-same : goal.returns-clause-same
returns-clause-same c = λ q.
    let is = dedup_is _ _ _ c.dedup.ensures.filtered in
    let moved = c.sort_unstable.ensures.permutation in (
      λ h. Contains-permutation _ _ q (IsPermutation-sym _ _ moved) (Contains-from_dedup _ _ q (rw is at h)),
      λ h. rw is (Contains-dedup (search (comparing, rules)) (λ x y. (bytes_decides x y).0) _ q (Contains-permutation _ _ q moved h)),
    )

pub returns-clause-order : goal.returns-clause-order
returns-clause-order c =
    let is = dedup_is _ _ _ c.dedup.ensures.filtered in
    rw is (IsStrictlySortedBy-dedup path_cmp_total (search (comparing, rules)) _ c.sort_unstable.ensures.sorted)
