-- What was planned in the part, as an answer for the whole workspace.
use Rattle.std.proofs.Common.{sym, subst}
use Rattle.std.specs.Prelude.{Ok, Err}
use Rattle.base_files.specs.declared.refusal.Refusal.{Refusal}
use Rattle.workspace_check.specs.KnownFindings.{verdicts_by}
use Rattle.workspace_graph.specs.Borrows.{names}
use Rattle.refactor_preserve.specs.Planned.{change_in}
use Rattle.refactor_rename.specs.NewName.{IsNewName}
use Rattle.refactor_affected.specs.Renames.{PlansAffectedRename}
use Rattle.refactor_affected.proofs.Planned.{admitted, refused, rename_differs, rename_fits}
use Rattle.refactor_affected.proofs.PlannedRead.{first_marked, planned_in_part}
use Rattle.refactor_affected.proofs.in_part.plan_marked.Goals as goal

pub plan_read-requires-clause-proposed : goal.plan_read-requires-clause-proposed
plan_read-requires-clause-proposed c = c.requires.proposed.proposed

pub plan_read-requires-clause-form : goal.plan_read-requires-clause-form
plan_read-requires-clause-form c = subst IsNewName (sym c.as_bytes.ensures.value) c.requires.part.asked.form

pub admitted-requires-clause-fits : goal.admitted-requires-clause-fits
admitted-requires-clause-fits c =
    let r = c.args.renaming.now in
    let a = r.asked.now in
    let known = verdicts_by a.found.now.findings.export_table in
    let is = c.requires.part in
    let planned = c.in-Ok.planned.change in
    let h = planned_in_part r is c.args.proposal.now c.requires.proposed c.as_bytes.result.now c.as_bytes.ensures.value (Ok planned) c.in-Ok.ensures.planned in
    rename_fits a.snapshot.now known is.found.findings.right a.file.now a.offset a.name.now is.asked planned h

pub admitted-requires-clause-differs : goal.admitted-requires-clause-differs
admitted-requires-clause-differs c =
    let r = c.args.renaming.now in
    let a = r.asked.now in
    let known = verdicts_by a.found.now.findings.export_table in
    let is = c.requires.part in
    let planned = c.in-Ok.planned.change in
    let h = planned_in_part r is c.args.proposal.now c.requires.proposed c.as_bytes.result.now c.as_bytes.ensures.value (Ok planned) c.in-Ok.ensures.planned in
    rename_differs a.snapshot.now known is.found.findings.right a.file.now a.offset a.name.now is.asked planned h (names r.left.now.folders.items)
    (names r.left.now.paths.items) is.left

pub returns-in-Err-clause-planned : goal.returns-in-Err-clause-planned
returns-in-Err-clause-planned c =
    let r = c.args.renaming.now in
    let a = r.asked.now in
    let known = verdicts_by a.found.now.findings.export_table in
    let is = c.requires.part in
    let refusal = c.in-Err.refusal in
    let faults = c.refuse_marked-faults.result in
    let h = planned_in_part r is c.args.proposal.now c.requires.proposed c.as_bytes.result.now c.as_bytes.ensures.value (Err refusal)
    c.in-Err.ensures.planned in
    let first = first_marked r is c.args.proposal.now c.requires.proposed c.args.marks.now c.requires.marks faults c.refuse_marked-faults.ensures in
    subst (λ (x : Refusal). PlansAffectedRename a.snapshot.now a.file.now a.offset a.name.now (Err x)) (sym c.after_faults.ensures)
    (refused a.snapshot.now known is.found.findings.right a.file.now a.offset a.name.now is.asked refusal faults h first)

pub returns-in-Ok-clause-planned : goal.returns-in-Ok-clause-planned
returns-in-Ok-clause-planned c =
    let r = c.args.renaming.now in
    let a = r.asked.now in
    let known = verdicts_by a.found.now.findings.export_table in
    let is = c.requires.part in
    let planned = c.in-Ok.planned.change in
    let faults = c.refuse_marked-faults.result in
    let h = planned_in_part r is c.args.proposal.now c.requires.proposed c.as_bytes.result.now c.as_bytes.ensures.value (Ok planned) c.in-Ok.ensures.planned in
    let first = first_marked r is c.args.proposal.now c.requires.proposed c.args.marks.now c.requires.marks faults c.refuse_marked-faults.ensures in
    admitted a.snapshot.now known is.found.findings.right a.file.now a.offset a.name.now is.asked planned h faults first (change_in c.admitted.result)
    c.admitted.ensures.planned
