-- What an admitted move does to packages without faults, and to those that it does not affect.
use Rattle.std.proofs.Common.{◌≡◌, ℕ, List, refl, sym, ap, subst, ◌∙◌}
use Rattle.std.specs.Prelude.{Contains, Ok}
use Rattle.base_files.specs.Path.{IsPath}
use Rattle.base_files.specs.Packages.{package_paths}
use Rattle.base_files.specs.Workspace.{Workspace}
use Rattle.base_edits.specs.EditSet.{FileChanges, edited}
use Rattle.base_edits.specs.RevisionsOfEdits.{revision_of}
use Rattle.workspace_check.specs.Closures.{HasSameClosure}
use Rattle.workspace_check.specs.Verdicts.{Verdicts, AreVerdicts}
use Rattle.workspace_snapshot.specs.declared.snapshot.Snapshot.{Snapshot}
use Rattle.workspace_snapshot.specs.declared.change.Change.{Change}
use Rattle.history_machine.specs.Machine.{Content}
use Rattle.history_machine.proofs.RunLaws.{undo_restores}
use Rattle.refactor_move.specs.MoveEdits.{AreMoveEdits}
use Rattle.refactor_plan.specs.DecidedMoves.{IsPlannedMove}
use Rattle.refactor_plan.proofs.DecidedMoves.{moves_there}
use Rattle.refactor_part.specs.FaultlessPart.{faultless_part}
use Rattle.refactor_part.proofs.PartEdits.{AreApart}
use Rattle.refactor_affected.specs.Moves.{PlansAffectedMove}
use Rattle.refactor_affected.specs.Starts.{IsAffectedByMove}
use Rattle.refactor_affected.proofs.MovesApart.{move_edits_apart}
use Rattle.law_implementing.proofs.Laws.{moves_preserve_all}
use Rattle.law_plans.specs.SoundMoves.{MovesSound, MovesKeepSoundBindings, UndoTakesAffectedMovesBack}
use Rattle.law_plans.proofs.AffectedAfter.{affected_stay_sound, faulty_apart, leaves_others}
use Rattle.law_plans.proofs.SoundAfter.{preserves_sound}
use Rattle.law_plans.proofs.MovingFiles.{each_goes_moving, none_comes_moving}
use Rattle.law_plans.proofs.OthersMoved.{others_moved}
use Rattle.law_plans.proofs.PlannedInPart.{moves_in_part}

module _ (snapshot : Snapshot) (from to : List ℕ) (change : Change) (plan : PlansAffectedMove snapshot from to (Ok change)) where
  abbrev w : Workspace
  w = snapshot.files

  abbrev s : FileChanges
  s = change.edits

  abbrev known : Verdicts
  known = plan.0.sound.known

  abbrev right : AreVerdicts snapshot.files plan.0.sound.known
  right = plan.0.sound.right

  abbrev by : Verdicts
  by = plan.1.moving.known

  abbrev are : AreMoveEdits (faultless_part snapshot.files plan.0.sound.known) plan.1.moving.known from to to change.edits
  are = plan.1.moving.edits

  abbrev target : IsPath 1 to
  target = plan.0.movable.beside.elsewhere.asked.target

  apart : AreApart s w
  apart = move_edits_apart w (faultless_part w known) by from to s are plan.0.movable.free

  unaffected : (p : List ℕ) → Contains (package_paths w) p → (IsAffectedByMove w from to p → ⊥) → HasSameClosure w (edited s w) p
  unaffected p has not = others_moved w known from to by s are plan.1.fit_part target plan.0.movable.free apart p has not

  planned : IsPlannedMove (faultless_part snapshot.files plan.0.sound.known) plan.1.moving.known from to to change.edits
  planned =
      let valid = (moves_in_part snapshot from to change plan).0.0 in
      moves_there (faultless_part w known) valid.sound by plan.1.moving.right from to s plan.1.fit_part valid.movable are

  pub moved_sound : MovesSound w from to s (edited s w)
  moved_sound =
      let back = none_comes_moving w known right from to target plan.0.movable.free plan.0.sound by s are apart in
      let preserved = preserves_sound w known right s are.none_added apart back
      (each_goes_moving w known right from to target plan.0.movable.free plan.0.sound by s are apart back) plan.1.preserves
      plan.1.fit_part
      (λ p has faulty. unaffected p has (faulty_apart w (IsAffectedByMove w from to) plan.0.sound known right p has faulty)) in
      record {
        asked = plan.0;
        moving = plan.1.moving;
        files = refl;
        preserves = preserved;
        in_part = moves_preserve_all (faultless_part w known) by from to s planned.move planned.allowed plan.1.preserves;
        affected_after = affected_stay_sound w (IsAffectedByMove w from to) (revision_of w s) plan.0.sound preserved;
        others = leaves_others w (IsAffectedByMove w from to) (edited s w) unaffected;
      }

-- The state after a committed move, from the snapshot on which the move was planned.
pub moves_keep_sound : MovesKeepSoundBindings
moves_keep_sound snapshot from to change old new basis number plan step =
    let same : snapshot.files ≡ old.current.files = sym (ap (λ (c : Change). c.base) plan.1.is_change) ∙ step.1.0.0.1 in
    let files : edited change.edits snapshot.files ≡ new.current.files =
    sym (ap (λ (c : Content). c.current.files) step.1.2.2 ∙ ap (λ (c : Change). c.files) plan.1.is_change) in
    subst (λ (x : Workspace). MovesSound old.current.files from to change.edits x) files
    (subst (λ (x : Workspace). MovesSound x from to change.edits (edited change.edits snapshot.files)) same (moved_sound snapshot from to change plan))

pub undo_takes_affected_back : UndoTakesAffectedMovesBack
undo_takes_affected_back snapshot from to change start changed settled end basis number between reply plan committed run quiet undone =
    undo_restores start changed settled end basis number change between reply committed run quiet undone
