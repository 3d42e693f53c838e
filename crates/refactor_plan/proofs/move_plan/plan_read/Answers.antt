-- The answers to the goals of `move_plan::plan_read`.
use Rattle.std.proofs.Common.{List, sym, subst}
use Rattle.std.specs.Prelude.{Bool}
use Rattle.std.specs.Global.{Vec}
use Rattle.refactor_move.specs.Uses.{KnowsUses}
use Rattle.refactor_plan.specs.Proposals.{proposed_verdicts}
use Rattle.refactor_plan.proofs.MovePlanned.{spared_by_free}
use Rattle.refactor_plan.proofs.move_plan.plan_read.Goals as goal

pub move_edits-requires-clause-only_moved : goal.move_edits-requires-clause-only_moved
move_edits-requires-clause-only_moved c =
    spared_by_free c.args.proposal.now.workspace.now.graph c.args.proposal.now.path.now c.args.to.now c.requires.movable.free

pub move_edits-requires-clause-uses : goal.move_edits-requires-clause-uses
move_edits-requires-clause-uses c = λ m is.
    let p = c.args.proposal.now in
    subst (λ (us : List (Vec (Vec Bool))). KnowsUses p.workspace.now.graph (proposed_verdicts p) m us) (sym c.deref.ensures.value)
    (c.requires.read.uses c.args.to.now m is)

pub refuse_long-requires-clause-asked : goal.refuse_long-requires-clause-asked
refuse_long-requires-clause-asked c = c.requires.movable.beside.elsewhere.asked

pub plan_moved-requires-clause-edits : goal.plan_moved-requires-clause-edits
plan_moved-requires-clause-edits c = c.in-Ok.ensures.0

pub plan_moved-requires-clause-fits : goal.plan_moved-requires-clause-fits
plan_moved-requires-clause-fits c = c.in-Ok.ensures.1

pub plan_moved-requires-clause-told : goal.plan_moved-requires-clause-told
plan_moved-requires-clause-told c = c.requires.read.conflict
