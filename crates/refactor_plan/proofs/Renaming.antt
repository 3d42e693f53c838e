-- What a planned and admitted rename does to a history.
use Rattle.std.proofs.Common.{ℕ, List, ◌≡◌, sym, ap, subst, ◌∙◌}
use Rattle.base_files.specs.Workspace.{Workspace}
use Rattle.base_edits.specs.EditSet.{edited}
use Rattle.workspace_snapshot.specs.declared.snapshot.Snapshot.{Snapshot}
use Rattle.workspace_snapshot.specs.declared.change.Change.{Change}
use Rattle.history_machine.specs.Machine.{Content, Machine}
use Rattle.history_machine.proofs.RunLaws.{undo_restores}
use Rattle.base_edits.specs.RevisionsOfEdits.{revision_of}
use Rattle.refactor_coupled.specs.Obstacles.{PreservesAll}
use Rattle.refactor_plan.specs.Plan.{RenamesIdentifier, IsRenamed}
use Rattle.refactor_plan.specs.Renames.{HasRenamedExactly, RenamesKeepBindings, UndoTakesRenamesBack}

-- The state after a committed rename, from the snapshot on which the rename was planned.
exactly : (snapshot : Snapshot) (path : List ℕ) (offset : ℕ) (name : List ℕ) (change : Change) (old new : Machine) → IsRenamed snapshot path offset name change
    → change.base ≡ old.current.files → new.current.files ≡ change.files → HasRenamedExactly path offset name change old.current new.current
exactly snapshot path offset name change old new r base files =
    let same : snapshot.files ≡ old.current.files = sym (ap (λ (c : Change). c.base) r.is_change) ∙ base in
    record {
      renaming = subst (λ (w : Workspace). RenamesIdentifier w path offset name change.edits) same r.renaming;
      files = files ∙ ap (λ (c : Change). c.files) r.is_change ∙ ap (λ (w : Workspace). edited change.edits w) same;
      preserves = subst (λ (w : Workspace). PreservesAll w (revision_of w change.edits)) same r.preserves;
    }

pub renames_keep : RenamesKeepBindings
renames_keep snapshot path offset name change old new basis number plan step =
    exactly snapshot path offset name change old new plan.1 step.1.0.0.1 (ap (λ (c : Content). c.current.files) step.1.2.2)

pub undo_takes_back : UndoTakesRenamesBack
undo_takes_back snapshot path offset name change start changed settled end basis number between reply plan committed run quiet undone =
    undo_restores start changed settled end basis number change between reply committed run quiet undone
