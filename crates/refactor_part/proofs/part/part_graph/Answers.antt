-- The files that are left are those of the part.
use Rattle.std.proofs.Common.{◌≡◌, subst, ◌∙◌}
use Rattle.std.specs.FinMap.{entries}
use Rattle.std.proofs.lemmas.Result.{IfOk-weaker}
use Rattle.base_files.specs.Workspace.{Workspace}
use Rattle.workspace_check.specs.Verdicts.{Verdicts}
use Rattle.workspace_graph.specs.Borrows.{names}
use Rattle.refactor_part.specs.FaultlessPart.{faultless_part}
use Rattle.refactor_part.specs.LeftOut.{AreOfFaulty, LeavesOut}
use Rattle.refactor_part.proofs.PartFiles.{left_part}
use Rattle.refactor_part.proofs.part.part_graph.Goals as goal

pub returns : goal.returns
returns c =
    let w = c.args.graph.now in
    let paths = names c.args.paths.now in
    let left = c.in_ok-left.left in
    let out : LeavesOut paths w left = subst (λ (x : Workspace). LeavesOut paths x left) c.files.ensures c.in_ok-left.ensures in
    IfOk-weaker c.changed.result (λ part. part ≡ left) (λ part. (known : Verdicts) → AreOfFaulty known (entries w) paths → part ≡ faultless_part w known)
    (λ part is known are. is ∙ left_part w known paths left are out) c.changed.ensures
