-- A move that the workspace before it decides.
use Rattle.std.specs.Prelude.{ℕ, ◌≡◌, List, Option, Result}
use Rattle.base_files.specs.Packages.{package_paths}
use Rattle.base_files.specs.Workspace.{Workspace}
use Rattle.base_files.specs.declared.refusal.Refusal.{Refusal}
use Rattle.base_edits.specs.EditSet.{FileChanges}
use Rattle.base_edits.specs.Fits.{Fits}
use Rattle.workspace_check.specs.declared.known.Known.{Known}
use Rattle.workspace_check.specs.Verdicts.{Verdicts}
use Rattle.workspace_snapshot.specs.declared.change.Change.{Change}
use Rattle.refs_binding.specs.Uses.{IsCheckedPackage}
use Rattle.refactor_move.specs.Following.{IsFollowingName}
use Rattle.refactor_move.specs.MoveEdits.{AreMoveEdits}
use Rattle.refactor_known.specs.MovedKnown.{AreMovedKnown}
use Rattle.refactor_known.specs.Swaps.{swapped}
use Rattle.law_moves.specs.Moves.{IsMove}
use Rattle.law_moves.specs.Agreement.{IsPlannedTarget}
use Rattle.refactor_follow.specs.MoveConflicts.{TellsMoveConflict}
use Rattle.refactor_follow.specs.MoveReadings.{KnowsMoveUses}
use Rattle.refactor_follow.specs.declared.packages.MoveReading.{MoveReading}
use Rattle.refactor_plan.specs.MoveSteps.{RefusesLength}

-- These edits are those of a planned move of the package `from` to the path `to`. Its name follows the path `called`.
pub record IsPlannedMove (w : Workspace) (known : Verdicts) (from to called : List ℕ) (s : FileChanges) : Type 0 where
  pub move : IsMove w known from to s
  pub follows : move.called ≡ called
  pub allowed : IsPlannedTarget w from to

-- What is known of packages after the move of the package `from` to the path `to`: the old known verdicts, moved. `after` is the workspace
-- after the move.
pub record KnowsMoved (w after : Workspace) (known : Verdicts) (from to : List ℕ) (old rest : Known) : Type 0 where
  pub name : Option (List ℕ)
  pub follows : IsFollowingName (IsCheckedPackage w known) from to name
  pub moved : AreMovedKnown from name (swapped from to) (package_paths w) (package_paths after) old rest

-- Why the edits that give the package `from` only the name that it has at the path `to` are refused, whichever these are.
abbrev pub RefusesLengthOfName : Workspace → Verdicts → (from to : List ℕ) → Result Change Refusal → Type 0
RefusesLengthOfName w known from to result = (s : FileChanges) → AreMoveEdits w known from from to s → Fits s w → RefusesLength w known s result

-- This was read for the move of the package `from`, whose name follows the path `called`: its first conflict, and the names that refer to it.
pub record IsMoveRead (w : Workspace) (known : Verdicts) (from called : List ℕ) (read : MoveReading) : Type 0 where
  pub conflict : TellsMoveConflict w known from called read.conflict
  pub uses : KnowsMoveUses w known from called read.uses.items
