-- The part has no fault with which it could be refused.
use Rattle.std.proofs.Common.{Global, [], ap, sym, subst}
use Rattle.std.specs.Prelude.{Err}
use Rattle.workspace_check.specs.FaultLists.{ListsFaults}
use Rattle.workspace_check.specs.KnownFindings.{verdicts_by}
use Rattle.workspace_snapshot.specs.declared.snapshot.Snapshot.{Snapshot}
use Rattle.refs_binding.specs.WorkspaceFindings.{WorkspaceFindings}
use Rattle.refactor_part.proofs.PartClosures.{part_sound}
use Rattle.refactor_affected.specs.Steps.{MarksRenamed}
use Rattle.refactor_affected.proofs.AffectedPackages.{sound_part}
use Rattle.refactor_affected.proofs.PlannedRead.{part_refused}
use Rattle.refactor_affected.proofs.in_part.plan_in_part.Goals as goal

pub returns-in-Err-clause-planned : goal.returns-in-Err-clause-planned
returns-in-Err-clause-planned c =
    let r = c.args.renaming.now in
    let a = r.asked.now in
    let w = a.snapshot.now.files in
    let known = verdicts_by a.found.now.findings.export_table in
    let part = r.part.now in
    let sound : ListsFaults part.snapshot.files [] =
    subst (λ (s : Snapshot). ListsFaults s.files []) (sym c.requires.part) (part_sound w known c.requires.found.findings.right) in
    let refusal = c.in-Err.refusal in
    part_refused r c.requires refusal
    (subst (λ (s : Snapshot). MarksRenamed {Z = Global} w s.files a.file.now a.offset (Err refusal)) c.requires.part
    (sound_part Global part.snapshot.files sound part.found.findings w a.file.now a.offset refusal c.in-Err.ensures))

pub plan_sound-requires-clause-same : goal.plan_sound-requires-clause-same
plan_sound-requires-clause-same c = ap (λ (v : WorkspaceFindings). v.graph) c.in-Ok.ensures.1
