-- The answers to the goals of `bindings::member_obstacle`.
use Rattle.std.proofs.Common.{Option, subst}
use Rattle.std.proofs.lemmas.Result.{IfOk-weaker}
use Rattle.base_edits.specs.EditSet.{FileChanges}
use Rattle.base_edits.specs.RevisionsOfEdits.{revision_of}
use Rattle.refs_binding.specs.Workspaces.{known_in}
use Rattle.refactor_conflict.specs.Conflicts.{IsFirstConflict}
use Rattle.refactor_conflict.specs.declared.conflict.Conflict.{Conflict}
use Rattle.law_renamed_workspaces.specs.MemberRenames.{IsMemberRename}
use Rattle.refactor_plan.specs.Decided.{TellsImplementing, TellsMembers}
use Rattle.refactor_plan.proofs.FirstObstacles.{change_first, conflict_first}
use Rattle.refactor_plan.proofs.bindings.member_obstacle.Goals as goal

pub returns-in-Some : goal.returns-in-Some
returns-in-Some c =
    let w = c.args.workspace.now in
    let r = c.args.renaming.now in
    conflict_first w r c.in-Some.conflict
    (subst (λ (o : Option Conflict). (s : FileChanges) → IsMemberRename w.graph (known_in w.findings) r.declaration.now r.set.now r.name.now s →
    IsFirstConflict w.graph (known_in w.findings) (revision_of w.graph s) o) c.in-Some.is c.in_ok-conflict.ensures)

pub returns-in-None : goal.returns-in-None
returns-in-None c =
    let w = c.args.workspace.now in
    let r = c.args.renaming.now in
    let kept = subst (λ (o : Option Conflict). (s : FileChanges) → IsMemberRename w.graph (known_in w.findings) r.declaration.now r.set.now r.name.now s →
    IsFirstConflict w.graph (known_in w.findings) (revision_of w.graph s) o) c.in-None.is c.in_ok-conflict.ensures in
    IfOk-weaker c.change_called.result (TellsImplementing w r) (TellsMembers w r) (λ told h. change_first w r kept told h) c.change_called.ensures
