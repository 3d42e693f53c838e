-- At the byte there is nothing to rename, or its rename affects the marked packages.
use Rattle.std.proofs.Common.{Bool, List, sym, subst}
use Rattle.refactor_affected.specs.Renames.{IsAffectedByRename}
use Rattle.refactor_affected.specs.Steps.{MarkPackages}
use Rattle.refactor_affected.proofs.PlannedRead.{read_refused}
use Rattle.refactor_affected.proofs.in_part.plan_bound.Goals as goal

pub returns-in-Err-clause-planned : goal.returns-in-Err-clause-planned
returns-in-Err-clause-planned c = read_refused c.args.renaming.now c.requires.part c.args.proposal.now c.requires.proposed c.in-Err.refusal c.in-Err.ensures

pub plan_marked-requires-clause-marks : goal.plan_marked-requires-clause-marks
plan_marked-requires-clause-marks c =
    let w = c.args.renaming.now.asked.now.snapshot.now.files in
    let p = c.args.proposal.now in
    subst (λ (l : List Bool). MarkPackages w (IsAffectedByRename w p.workspace.now.graph p.path.now p.offset) l) (sym c.deref.ensures.value) c.in-Ok.ensures
