-- What is planned beside packages with faults is planned in the part, whose packages keep their closures before and after the edits.
use Rattle.std.proofs.Common.{ℕ, List, inl, refl}
use Rattle.std.specs.Prelude.{Contains, Ok}
use Rattle.std.specs.FinMap.{get}
use Rattle.base_files.specs.Packages.{package_paths}
use Rattle.base_files.specs.Workspace.{Workspace}
use Rattle.base_edits.specs.EditSet.{FileChanges}
use Rattle.base_edits.proofs.Entries.{some_is, value_of}
use Rattle.workspace_graph.specs.Packages.{itself}
use Rattle.workspace_check.specs.Verdicts.{Verdicts, AreVerdicts}
use Rattle.workspace_check.proofs.Local.{same_back}
use Rattle.workspace_snapshot.specs.declared.change.Change.{Change}
use Rattle.workspace_snapshot.specs.declared.snapshot.Snapshot.{Snapshot}
use Rattle.refactor_move.specs.MoveEdits.{AreMoveEdits, IsFree}
use Rattle.refactor_part.specs.FaultlessPart.{faultless_part}
use Rattle.refactor_part.proofs.PartClosures.{part_closure, part_sound}
use Rattle.refactor_part.proofs.PartEdits.{AreApart, limits_of_part, staying_apart}
use Rattle.refactor_part.proofs.PartFiles.{from_part, into_part, stays_there}
use Rattle.refactor_plan.specs.MovePlan.{IsMovable}
use Rattle.refactor_affected.specs.Moves.{PlansAffectedMove}
use Rattle.refactor_affected.specs.Starts.{IsAffectedByMove, moves}
use Rattle.refactor_affected.proofs.MovesApart.{move_edits_apart}
use Rattle.law_plans.specs.PlannedInPart.{MovesArePlannedInPart, RenamesArePlannedInPart, SharesClosures}
use Rattle.law_plans.proofs.AffectedAfter.{sound_among}
use Rattle.law_plans.proofs.EditedPart.{kept_closure}
use Rattle.law_plans.proofs.MovingFiles.{none_comes_moving}
use Rattle.law_plans.proofs.PartPlans.{planned_inside, stay}
use Rattle.law_plans.proofs.StayingFiles.{none_comes_staying}

-- before the edits
pub shared_before : (w : Workspace) (known : Verdicts) → AreVerdicts w known → SharesClosures (faultless_part w known) w
shared_before w known right p has = same_back w (faultless_part w known) p (part_closure w known right p (from_part w known p has).1)

pub renames_in_part : RenamesArePlannedInPart
renames_in_part snapshot path offset name change plan =
    let w = snapshot.files in
    let known = plan.0.sound.known in
    let s = change.edits in
    let none = plan.1.renaming.edits.edits.edits.none_added in
    let stays = stay snapshot path offset name change plan in
    let apart = staying_apart s w stays in
    let kept = plan.1.preserves.bindings in (
      planned_inside snapshot path offset name change plan,
      record {
        before = shared_before w known plan.0.sound.right;
        after = kept_closure w known s none apart (none_comes_staying w known s none apart stays) kept.after kept.right_after kept.sound;
      },
    )

module _ (snapshot : Snapshot) (from to : List ℕ) (change : Change) (plan : PlansAffectedMove snapshot from to (Ok change)) where
  abbrev w : Workspace
  w = snapshot.files

  abbrev s : FileChanges
  s = change.edits

  abbrev known : Verdicts
  known = plan.0.sound.known

  abbrev part : Workspace
  part = faultless_part snapshot.files plan.0.sound.known

  abbrev are : AreMoveEdits (faultless_part snapshot.files plan.0.sound.known) plan.1.moving.known from to to change.edits
  are = plan.1.moving.edits

  abbrev own : Contains (package_paths snapshot.files) from
  own = plan.0.movable.beside.elsewhere.asked.is_package

  there : Contains (package_paths part) from
  there = into_part w known from own (sound_among w (IsAffectedByMove w from to) plan.0.sound known plan.0.sound.right from own (record {
    start = from;
    begins = moves (inl refl);
    in_closure = itself own;
  })).sound

  free : IsFree part to
  free path has under =
      let text = value_of (get part path) has in
      plan.0.movable.free path (some_is (get w path) text.0 (stays_there w known path text.0 text.1).1) under

  movable : IsMovable part from to
  movable =
      let beside = plan.0.movable.beside in
      let asked = beside.elsewhere.asked in
      record {
        beside = record {
          elsewhere = record { asked = record { source = asked.source; target = asked.target; is_package = there }; other = beside.elsewhere.other };
          outside = beside.outside;
        };
        free = free;
      }

  apart : AreApart s w
  apart = move_edits_apart w part plan.1.moving.known from to s are plan.0.movable.free

pub moves_in_part : MovesArePlannedInPart
moves_in_part snapshot from to change plan =
    let w = snapshot.files in
    let known = plan.0.sound.known in
    let right = plan.0.sound.right in
    let s = change.edits in
    let by = plan.1.moving.known in
    let are = plan.1.moving.edits in
    let beside = apart snapshot from to change plan in
    let target = plan.0.movable.beside.elsewhere.asked.target in
    let kept = plan.1.preserves in (
      (
        record { movable = movable snapshot from to change plan; sound = part_sound w known right },
        record {
          moving = plan.1.moving;
          preserves = plan.1.preserves;
          fits = limits_of_part w known s are.none_added beside snapshot.limits plan.1.fits;
          fit_files = plan.1.fit_part;
          is_change = refl;
        },
      ),
      record {
        before = shared_before w known right;
        after = kept_closure w known s are.none_added beside (none_comes_moving w known right from to target plan.0.movable.free plan.0.sound by s are beside)
            kept.after kept.right_after kept.sound;
      },
    )
