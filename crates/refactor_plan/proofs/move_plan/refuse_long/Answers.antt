-- The answers to the goals of `move_plan::refuse_long`.
use Rattle.std.proofs.Common.{List, sym, subst}
use Rattle.std.specs.Prelude.{Bool}
use Rattle.std.specs.Global.{Vec}
use Rattle.refs_binding.proofs.Units.{list_of_sound}
use Rattle.refactor_move.specs.Uses.{KnowsUses}
use Rattle.refactor_preserve.specs.Planned.{change_in}
use Rattle.refactor_plan.specs.Proposals.{proposed_snapshot, proposed_verdicts}
use Rattle.refactor_plan.proofs.MovePlanned.{name_refused, name_planned}
use Rattle.refactor_plan.proofs.move_plan.refuse_long.Goals as goal

pub move_edits-requires-clause-only_moved : goal.move_edits-requires-clause-only_moved
move_edits-requires-clause-only_moved c = λ path is under. under

pub move_edits-requires-clause-uses : goal.move_edits-requires-clause-uses
move_edits-requires-clause-uses c = λ m is.
    let p = c.args.proposal.now in
    subst (λ (us : List (Vec (Vec Bool))). KnowsUses p.workspace.now.graph (proposed_verdicts p) m us) (sym c.deref.ensures.value)
    (c.requires.read.uses c.args.proposal.now.path.now m is)

pub refuse_length-requires-clause-told : goal.refuse_length-requires-clause-told
refuse_length-requires-clause-told c = c.requires.read.conflict

pub returns-in-Err-clause-planned : goal.returns-in-Err-clause-planned
returns-in-Err-clause-planned c =
    let p = c.args.proposal.now in
    name_refused (proposed_snapshot p) (proposed_verdicts p) p.path.now c.args.to.now c.in-Err.refusal c.in-Err.ensures

pub returns-in-Ok-clause-planned : goal.returns-in-Ok-clause-planned
returns-in-Ok-clause-planned c =
    let p = c.args.proposal.now in
    let w = p.workspace.now.graph in
    let sound = c.has_no_faults.ensures in
    name_planned (proposed_snapshot p) p.path.now c.args.to.now (list_of_sound w p.workspace.now.findings sound) (proposed_verdicts p) sound.findings.right
    c.requires.no_path c.in-Ok._edits c.in-Ok.ensures.0 (change_in c.refuse_length.result)
    (c.refuse_length.ensures.planned c.in-Ok._edits c.in-Ok.ensures.0 c.in-Ok.ensures.1)

pub returns-in-Ok-clause-known : goal.returns-in-Ok-clause-known
returns-in-Ok-clause-known c = c.refuse_length.ensures.known
