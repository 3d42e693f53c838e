-- What was planned in the part, as an answer for the whole workspace.
use Rattle.std.proofs.Common.{◌≡◌, List, ℕ, subst}
use Rattle.std.specs.Prelude.{Result, Ok, Err}
use Rattle.base_files.specs.declared.refusal.Refusal.{Refusal}
use Rattle.workspace_check.specs.KnownFindings.{verdicts_by}
use Rattle.workspace_graph.specs.Borrows.{names}
use Rattle.workspace_snapshot.specs.declared.change.Change.{Change}
use Rattle.workspace_snapshot.specs.declared.snapshot.Snapshot.{Snapshot}
use Rattle.refactor_preserve.specs.Planned.{change_in}
use Rattle.refactor_part.specs.FaultlessPart.{part_of_snapshot}
use Rattle.refactor_plan.specs.MovePlan.{PlansMove}
use Rattle.refactor_affected.proofs.MovePlanned.{move_admitted, move_differs, move_fits, move_refused}
use Rattle.refactor_affected.proofs.moving.plan_in_part.Goals as goal

-- by the part of the snapshot
planned_in : (snapshot part : Snapshot) (from source to target : List ℕ) → snapshot ≡ part → source ≡ from → target ≡ to → (r : Result Change Refusal) →
    PlansMove snapshot source target r → PlansMove part from to r
planned_in snapshot part from source to target is same also r h =
    subst (λ s. PlansMove s from to r) is (subst (λ p. PlansMove snapshot p to r) same (subst (λ p. PlansMove snapshot source p r) also h))

pub whole_change-requires-clause-fits : goal.whole_change-requires-clause-fits
whole_change-requires-clause-fits c =
    let snapshot = c.args.snapshot.now in
    let known = verdicts_by c.args.found.now.findings.export_table in
    let from = c.args.moved.from.now in
    let to = c.args.moved.to.now in
    let h = planned_in c.in_ok-part.part.snapshot (part_of_snapshot snapshot known) from c.as_str-from.result.now to c.as_str-to.result.now
    c.in_ok-part.ensures.part
    c.as_str-from.ensures.text c.as_str-to.ensures.text (Ok c.in-Ok.planned.change) c.in-Ok.ensures.planned in
    move_fits snapshot known c.requires.found.findings.right from to c.requires.sound c.in-Ok.planned.change h

pub whole_change-requires-clause-differs : goal.whole_change-requires-clause-differs
whole_change-requires-clause-differs c =
    let snapshot = c.args.snapshot.now in
    let known = verdicts_by c.args.found.now.findings.export_table in
    let from = c.args.moved.from.now in
    let to = c.args.moved.to.now in
    let h = planned_in c.in_ok-part.part.snapshot (part_of_snapshot snapshot known) from c.as_str-from.result.now to c.as_str-to.result.now
    c.in_ok-part.ensures.part
    c.as_str-from.ensures.text c.as_str-to.ensures.text (Ok c.in-Ok.planned.change) c.in-Ok.ensures.planned in
    move_differs snapshot known c.requires.found.findings.right from to c.requires.sound c.in-Ok.planned.change h (names c.in_ok-left.left.folders.items)
    (names c.in_ok-left.left.paths.items) c.in_ok-left.ensures

pub returns-in-Err-clause-planned : goal.returns-in-Err-clause-planned
returns-in-Err-clause-planned c =
    let snapshot = c.args.snapshot.now in
    let known = verdicts_by c.args.found.now.findings.export_table in
    let from = c.args.moved.from.now in
    let to = c.args.moved.to.now in
    let h = planned_in c.in_ok-part.part.snapshot (part_of_snapshot snapshot known) from c.as_str-from.result.now to c.as_str-to.result.now
    c.in_ok-part.ensures.part
    c.as_str-from.ensures.text c.as_str-to.ensures.text (Err c.in-Err.refusal) c.in-Err.ensures.planned in
    move_refused snapshot known c.requires.found.findings.right from to c.requires.sound c.in-Err.refusal h

pub returns-clause-planned : goal.returns-clause-planned
returns-clause-planned c =
    let snapshot = c.args.snapshot.now in
    let known = verdicts_by c.args.found.now.findings.export_table in
    let from = c.args.moved.from.now in
    let to = c.args.moved.to.now in
    let h = planned_in c.in_ok-part.part.snapshot (part_of_snapshot snapshot known) from c.as_str-from.result.now to c.as_str-to.result.now
    c.in_ok-part.ensures.part
    c.as_str-from.ensures.text c.as_str-to.ensures.text (Ok c.in-Ok.planned.change) c.in-Ok.ensures.planned in
    move_admitted snapshot known c.requires.found.findings.right from to c.requires.sound c.in-Ok.planned.change h (change_in c.whole_change.result)
    c.whole_change.ensures.planned
