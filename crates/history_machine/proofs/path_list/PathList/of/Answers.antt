-- The paths of a workspace's packages are in order.
use Rattle.std.proofs.Common.{sym, ap, subst, ◌∙◌}
use Rattle.std.specs.List.Sorted.{IsStrictlySortedBy}
use Rattle.base_files.specs.Workspace.{path_cmp}
use Rattle.workspace_graph.proofs.PackagePaths.{paths_sorted}
use Rattle.history_machine.proofs.path_list.PathList.of.Goals as goal

pub invariant_of-result : goal.invariant_of-result
invariant_of-result c =
    subst (IsStrictlySortedBy path_cmp) (sym (ap (λ paths. paths.items) c.in_ok-new.ensures.ok ∙ c.in_ok-paths.ensures)) (paths_sorted c.args.files.now)
