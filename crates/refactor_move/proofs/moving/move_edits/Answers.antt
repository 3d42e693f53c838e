-- The answers to the goals of `moving::move_edits`.
use Rattle.std.proofs.Common.{Global, subst, ap, ◌∙◌}
use Rattle.std.specs.Prelude.{Err}
use Rattle.std.specs.FinMap.{entries}
use Rattle.base_files.specs.Workspace.{Workspace}
use Rattle.refs_binding.specs.WorkspaceFindings.{WorkspaceFindings}
use Rattle.refs_binding.specs.Workspaces.{known_in}
use Rattle.refs_binding.proofs.FaultlessFacts.{faultless_by_view}
use Rattle.refactor_move.specs.Steps.{AreChangesOf, FindsChanges}
use Rattle.refactor_move.proofs.Fitting.{is_edit_set}
use Rattle.refactor_move.proofs.Planning.{refused_set, planned_set}
use Rattle.refactor_move.proofs.moving.move_edits.Goals as goal

pub returns-in-Err : goal.returns-in-Err
returns-in-Err c =
    let w = c.args.workspace.now.graph in
    let m = c.in_ok-moved.moved in
    let edits = c.in_ok-edits.edits in
    refused_set w (known_in c.args.workspace.now.findings) m edits c.args.from.now c.args.to.now c.args.called.now c.in_ok-moved.ensures c.in-Err.refusal
    (subst (λ (v : Workspace). FindsChanges {Z = Global} m edits (entries v) (Err c.in-Err.refusal))
    (c.files.ensures ∙ ap (λ (v : WorkspaceFindings). v.graph) c.workspace.view_is) c.in-Err.ensures)

pub all_edits-requires : goal.all_edits-requires
all_edits-requires c = c.requires.uses c.in_ok-moved.moved c.in_ok-moved.ensures

pub set_of-requires : goal.set_of-requires
set_of-requires c =
    let m = c.in_ok-moved.moved in
    let edits = c.in_ok-edits.edits in
    let cs = c.in-Ok.changed.items in
    let are = subst (λ (v : Workspace). AreChangesOf m edits (entries v) cs)
    (c.files.ensures ∙ ap (λ (v : WorkspaceFindings). v.graph) c.workspace.view_is) c.in-Ok.ensures in
    is_edit_set c.args.workspace.now.graph c.args.workspace.now.findings (faultless_by_view c.workspace.view_is c.workspace.invariant) m edits
    c.in_ok-edits.ensures cs are

pub returns : goal.returns
returns c =
    let m = c.in_ok-moved.moved in
    let edits = c.in_ok-edits.edits in
    let cs = c.in-Ok.changed.items in
    let are = subst (λ (v : Workspace). AreChangesOf m edits (entries v) cs)
    (c.files.ensures ∙ ap (λ (v : WorkspaceFindings). v.graph) c.workspace.view_is) c.in-Ok.ensures in
    planned_set c.args.workspace.now.graph c.args.workspace.now.findings (faultless_by_view c.workspace.view_is c.workspace.invariant) m edits
    c.in_ok-edits.ensures cs are c.args.from.now c.args.to.now c.args.called.now
    c.in_ok-moved.ensures c.requires.only_moved c.set_of.result c.set_of.ensures
