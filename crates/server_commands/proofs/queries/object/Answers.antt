-- The refusal `Pending`: the package exists and is not finished.
use Rattle.std.proofs.Common.{◌≡◌, Some, slice_get, ap, subst, ◌∙◌}
use Rattle.base_files.specs.Packages.{package_paths}
use Rattle.base_files.specs.Workspace.{Workspace}
use Rattle.workspace_graph.proofs.ByPath.{at_contains}
use Rattle.build_carry.proofs.FinishedUnits.{unit_at}
use Rattle.server_commands.proofs.queries.object.Goals as goal

pub returns-in_default-get : goal.returns-in_default-get
returns-in_default-get c =
    let w = c.args.view.now.snapshot.files in
    let n = c.in-Some.number in
    let p = c.args.path.now in
    let read = c.in_ok-path.ensures in
    let there : slice_get (package_paths c.files.result.now) n ≡ Some p =
    c.in-Some.ensures ∙ ap Some (c.as_bytes.ensures.value ∙ c.as_str.ensures.text ∙ read.0) in
    let at : slice_get (package_paths w) n ≡ Some p = subst (λ (v : Workspace). slice_get (package_paths v) n ≡ Some p) c.files.ensures there in
    (read.0, (read.1, at_contains w n p at), λ unit finished. c.in_default-get.ensures unit (unit_at w c.args.view.now.finished p unit n at finished))
