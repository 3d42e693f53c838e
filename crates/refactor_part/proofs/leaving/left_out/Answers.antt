-- All packages were passed.
use Rattle.std.proofs.Common.{◌≡◌, length, arith}
use Rattle.base_files.specs.Packages.{package_paths}
use Rattle.workspace_check.specs.KnownFindings.{verdicts_by}
use Rattle.workspace_graph.specs.Borrows.{names}
use Rattle.refactor_part.proofs.LeavingOut.{all_left}
use Rattle.refactor_part.proofs.leaving.left_out.Goals as goal

pub returns : goal.returns
returns c =
    let w = c.args.graph.now in
    let end : c.loop-number.number ≡ length (package_paths w) = omega arith in
    all_left w (verdicts_by c.args.table.now) c.loop-number.number (names c.loop-number.left.folders.items) (names c.loop-number.left.paths.items) end
    c.loop-number.invariant
