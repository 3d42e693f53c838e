-- What a planned and admitted move does to a history.
use Rattle.std.proofs.Common.{ℕ, List, ◌≡◌, sym, ap, subst, ◌∙◌}
use Rattle.base_files.specs.Workspace.{Workspace}
use Rattle.base_edits.specs.EditSet.{edited}
use Rattle.workspace_snapshot.specs.declared.snapshot.Snapshot.{Snapshot}
use Rattle.workspace_snapshot.specs.declared.change.Change.{Change}
use Rattle.history_machine.specs.Machine.{Content, Machine}
use Rattle.history_machine.proofs.RunLaws.{undo_restores}
use Rattle.base_edits.specs.RevisionsOfEdits.{revision_of}
use Rattle.refactor_preserve.specs.Preserved.{Preserves}
use Rattle.refactor_plan.specs.MovePlan.{MovesPackage, IsMoveChange}
use Rattle.refactor_plan.specs.Moves.{HasMovedExactly, MovesKeepBindings, UndoTakesMovesBack}

-- The state after a committed move, from the snapshot on which the move was planned.
exactly : (snapshot : Snapshot) (from to : List ℕ) (change : Change) (old new : Machine) → IsMoveChange snapshot from to change
    → change.base ≡ old.current.files → new.current.files ≡ change.files → HasMovedExactly from to change old.current new.current
exactly snapshot from to change old new r base files =
    let same : snapshot.files ≡ old.current.files = sym (ap (λ (c : Change). c.base) r.is_change) ∙ base in
    record {
      moving = subst (λ (w : Workspace). MovesPackage w from to change.edits) same r.moving;
      files = files ∙ ap (λ (c : Change). c.files) r.is_change ∙ ap (λ (w : Workspace). edited change.edits w) same;
      preserves = subst (λ (w : Workspace). Preserves w (revision_of w change.edits)) same r.preserves;
    }

pub moves_keep : MovesKeepBindings
moves_keep snapshot from to change old new basis number plan step =
    exactly snapshot from to change old new plan.1 step.1.0.0.1 (ap (λ (c : Content). c.current.files) step.1.2.2)

pub undo_takes_back : UndoTakesMovesBack
undo_takes_back snapshot from to change start changed settled end basis number between reply plan committed run quiet undone =
    undo_restores start changed settled end basis number change between reply committed run quiet undone
