-- The first state has no package, and no unit, and nothing is known.
use Rattle.std.proofs.Common.{◌≡◌, ℕ, List, length, sym, ap, subst, ◌∙◌}
use Rattle.base_files.specs.Packages.{package_paths}
use Rattle.base_files.specs.Workspace.{Workspace}
use Rattle.workspace_check.specs.Found.{KnowsVerdicts}
use Rattle.build_carry.specs.Finished.{Table}
use Rattle.workspace_graph.proofs.UpdatedPackages.{no_paths}
use Rattle.history_book.proofs.content.Content.new.Goals as goal

pub invariant_of-result : goal.invariant_of-result
invariant_of-result c =
    let files : length (package_paths c.in_ok-files.files) ≡ 0 = ap (λ (w : Workspace). length (package_paths w)) c.in_ok-files.ensures ∙
    ap (λ (paths : List (List ℕ)). length paths) no_paths in
    let units : length c.in_ok-finished.finished ≡ 0 = ap (λ (t : Table). length t) c.in_ok-finished.ensures in (
      units ∙ sym files,
      subst (KnowsVerdicts c.in_ok-files.files) (sym c.in_ok-known.ensures) (c.new-nothing.ensures.right c.in_ok-files.files),
    )
