-- The answers of the steps of planning a move, as cases of `PlansMove`.
use Rattle.std.proofs.Common.{◌≡◌, ℕ, inl, inr, List, [], refl, sym, subst, ◌∙◌}
use Rattle.std.specs.Prelude.{Option, Some, None, Result, Ok, Err, Contains}
use Rattle.base_files.specs.Packages.{package_paths}
use Rattle.base_files.specs.Path.{IsPath}
use Rattle.base_files.specs.PathRead.{ReadsPath}
use Rattle.base_files.specs.declared.place.Place.{Place}
use Rattle.base_files.specs.declared.refusal.Refusal.{Refusal}
use Rattle.base_files.specs.declared.refusal.Refusal.TheVariants.{Memory, BadPath, NoPackage, Same, InsideItself, TargetTaken, TooLarge, Faulty, Captured, Lost}
use Rattle.workspace_check.specs.declared.findings.Findings.{Findings}
use Rattle.workspace_check.specs.Verdicts.{Verdicts, AreVerdicts}
use Rattle.workspace_check.specs.FaultLists.{ListsFaults}
use Rattle.refs_binding.specs.Workspaces.{RefusesFaults}
use Rattle.base_edits.specs.RevisionsOfEdits.{revision_of}
use Rattle.refactor_conflict.specs.ConflictRefusal.{refusal_for}
use Rattle.refactor_conflict.specs.declared.conflict.Capturer.{Capturer}
use Rattle.refactor_conflict.specs.declared.conflict.Capturer.TheVariants.{Universe, At}
use Rattle.base_edits.specs.EditSet.{FileChanges}
use Rattle.base_edits.specs.Fits.{Fits}
use Rattle.workspace_snapshot.specs.declared.snapshot.Snapshot.{Snapshot}
use Rattle.workspace_snapshot.specs.declared.change.Change.{Change}
use Rattle.base_files.specs.Workspace.{Workspace}
use Rattle.refactor_move.specs.Paths.{IsUnder}
use Rattle.refactor_move.specs.MoveEdits.{AreMoveEdits, HasNoNewPath, IsFree, HasOnlyMoved, PlansMoveEdits}
use Rattle.workspace_snapshot.specs.declared.change.ChangeKind.TheVariants.{Move}
use Rattle.refactor_plan.specs.MovePlan.{HasOtherTarget, HasOutsideTarget, IsMovable, MovesPackage, NamesMoveConflict, NamesMovedPackage}
use Rattle.refactor_plan.specs.MovePlan.{OnlyRenamesPackage, PlansMove}
use Rattle.refactor_plan.specs.Proposals.{IsConflictRefusal, NamesFirstConflict, PlansChange}
use Rattle.refactor_plan.specs.MoveSteps.{ArePackagePaths, RefusesTarget, RefusesLength, PlansMoveTo}

-- The refusal of a conflict of the name alone.

pub conflict_of_length : (w : Workspace) (known : Verdicts) (s : FileChanges) (by : Option Capturer) (used : Place) →
    IsConflictRefusal w known s (refusal_for by used) → RefusesLength w known s (Err (refusal_for by used))
conflict_of_length w known s None used h = h
conflict_of_length w known s (Some Universe) used h = h
conflict_of_length w known s (Some (At at)) used h = h

-- the edits, and what they make

pub spared_by_free : (w : Workspace) (from to : List ℕ) → IsFree w to → HasOnlyMoved w from to
spared_by_free w from to free = λ path is under. absurd (free path is under)

-- a file that is left where it is has its path

same_path : (w : Workspace) (from : List ℕ) → HasNoNewPath w from from → ⊥
same_path w from h = h.no_path (subst (IsPath 1) (h.moves.was ∙ sym h.moves.is) h.is_path)

pub name_refused : (snapshot : Snapshot) (known : Verdicts) (from to : List ℕ) (r : Refusal) → PlansMoveEdits snapshot.files known from from to (Err r) →
    PlansMoveTo snapshot from to (Err r)
name_refused snapshot known from to TooLarge h = absurd (same_path snapshot.files from h)
name_refused snapshot known from to Memory h = h
name_refused snapshot known from to _ h = absurd h

module _ (snapshot : Snapshot) (from to : List ℕ) (sound : ListsFaults snapshot.files []) (known : Verdicts) (right : AreVerdicts snapshot.files known)
    (no_path : HasNoNewPath snapshot.files from to) (s : FileChanges) (are : AreMoveEdits snapshot.files known from from to s) where
  naming : OnlyRenamesPackage snapshot.files from to s
  naming = record { known = known; right = right; edits = are }

  name_named : (r : Refusal) → NamesFirstConflict snapshot.files known (revision_of snapshot.files s) r → NamesMoveConflict snapshot.files s r
  name_named r h = record { known = known; right = right; tells = h }

  length_refused : (r : Refusal) → RefusesLength snapshot.files known s (Err r) → PlansMoveTo snapshot from to (Err r)
  length_refused TooLarge h = (sound, inl (record { no_path = no_path; changes = s; naming = naming; preserves = h }))
  length_refused (Captured a b) h =
      (sound, inr (record { no_path = no_path; changes = s; naming = naming; not_preserved = h.0; told = name_named (Captured a b) h.1 }))
  length_refused (Lost a) h = (sound, inr (record { no_path = no_path; changes = s; naming = naming; not_preserved = h.0; told = name_named (Lost a) h.1 }))
  length_refused Memory h = h
  length_refused _ h = absurd h

  pub name_planned : (r : Result Change Refusal) → RefusesLength snapshot.files known s r → PlansMoveTo snapshot from to r
  name_planned (Err r) h = length_refused r h
  name_planned (Ok change) h = absurd h

module _ (snapshot : Snapshot) (from to : List ℕ) (sound : ListsFaults snapshot.files []) (known : Verdicts) (right : AreVerdicts snapshot.files known)
    (s : FileChanges) (are : AreMoveEdits snapshot.files known from to to s) (fit : Fits s snapshot.files) where
  moving : MovesPackage snapshot.files from to s
  moving = record { known = known; right = right; edits = are }

  move_named : (r : Refusal) → NamesFirstConflict snapshot.files known (revision_of snapshot.files s) r → NamesMoveConflict snapshot.files s r
  move_named r h = record { known = known; right = right; tells = h }

  edits_refused : (r : Refusal) → PlansChange snapshot known Move s (Err r) → PlansMoveTo snapshot from to (Err r)
  edits_refused TooLarge h = (sound, inr (record { changes = s; moving = moving; preserves = h.0; too_large = h.1 }))
  edits_refused (Captured a b) h = (sound, inl (record { changes = s; moving = moving; not_preserved = h.0; told = move_named (Captured a b) h.1 }))
  edits_refused (Lost a) h = (sound, inl (record { changes = s; moving = moving; not_preserved = h.0; told = move_named (Lost a) h.1 }))
  edits_refused Memory h = h
  edits_refused _ h = absurd h

  pub edits_planned : (r : Result Change Refusal) → PlansChange snapshot known Move s r → PlansMoveTo snapshot from to r
  edits_planned (Err r) h = edits_refused r h
  edits_planned (Ok change) h =
      subst (λ (c : Change). PlansMoveTo snapshot from to (Ok c)) (sym h.2)
      (sound, record { moving = moving; preserves = h.0; fits = h.1; fit_files = fit; is_change = refl })

-- the first fault

pub faults_refused : (snapshot : Snapshot) (from to : List ℕ) (found : Findings) (r : Refusal) → RefusesFaults snapshot.files found (Err r) →
    PlansMoveTo snapshot from to (Err r)
faults_refused snapshot from to found (Faulty a b) h = h
faults_refused snapshot from to found Memory h = h
faults_refused snapshot from to found _ h = absurd h

-- the folder that a package gets

asked : (snapshot : Snapshot) (from to : List ℕ) → ArePackagePaths from to → Contains (package_paths snapshot.files) from →
    NamesMovedPackage snapshot.files from to
asked snapshot from to paths has = record { source = paths.source; target = paths.target; is_package = has }

elsewhere : (snapshot : Snapshot) (from to : List ℕ) → ArePackagePaths from to → Contains (package_paths snapshot.files) from → (to ≡ from → ⊥) →
    HasOtherTarget snapshot.files from to
elsewhere snapshot from to paths has other = record { asked = asked snapshot from to paths has; other = other }

beside : (snapshot : Snapshot) (from to : List ℕ) → ArePackagePaths from to → Contains (package_paths snapshot.files) from → (to ≡ from → ⊥) →
    (IsUnder from to → ⊥) → HasOutsideTarget snapshot.files from to
beside snapshot from to paths has other outside = record { elsewhere = elsewhere snapshot from to paths has other; outside = outside }

pub target_refused : (snapshot : Snapshot) (from to : List ℕ) → ArePackagePaths from to → (r : Refusal) → RefusesTarget snapshot.files from to (Err r) →
    PlansMove snapshot from to (Err r)
target_refused snapshot from to paths NoPackage h = (paths.source, paths.target, h)
target_refused snapshot from to paths Same h = (asked snapshot from to paths h.0, h.1)
target_refused snapshot from to paths InsideItself h = (elsewhere snapshot from to paths h.0 h.1, h.2)
target_refused snapshot from to paths TargetTaken h = (beside snapshot from to paths h.0 h.1 h.2, h.3)
target_refused snapshot from to paths _ h = absurd h

-- what is planned

pub movable : (snapshot : Snapshot) (from to : List ℕ) → ArePackagePaths from to → RefusesTarget snapshot.files from to (Ok tt) →
    IsMovable snapshot.files from to
movable snapshot from to paths h = record { beside = beside snapshot from to paths h.0 h.1 h.2; free = h.3 }

in_refused : (snapshot : Snapshot) (from to : List ℕ) → IsMovable snapshot.files from to → (r : Refusal) → PlansMoveTo snapshot from to (Err r) →
    PlansMove snapshot from to (Err r)
in_refused snapshot from to is (Faulty a b) h = (is, h)
in_refused snapshot from to is (Captured a b) h = (record { movable = is; sound = h.0 }, h.1)
in_refused snapshot from to is (Lost a) h = (record { movable = is; sound = h.0 }, h.1)
in_refused snapshot from to is TooLarge h = (record { movable = is; sound = h.0 }, h.1)
in_refused snapshot from to is Memory h = h
in_refused snapshot from to is _ h = absurd h

pub in_planned : (snapshot : Snapshot) (from to : List ℕ) → ArePackagePaths from to → RefusesTarget snapshot.files from to (Ok tt) →
    (r : Result Change Refusal) →
    PlansMoveTo snapshot from to r → PlansMove snapshot from to r
in_planned snapshot from to paths ok (Ok change) h = (record { movable = movable snapshot from to paths ok; sound = h.0 }, h.1)
in_planned snapshot from to paths ok (Err r) h = in_refused snapshot from to (movable snapshot from to paths ok) r h

-- A text that is no path.

pub source_refused : (snapshot : Snapshot) (from to : List ℕ) (r : Refusal) → ReadsPath 1 from (Err r) → PlansMove snapshot from to (Err r)
source_refused snapshot from to BadPath h = λ both. h both.0
source_refused snapshot from to Memory h = h
source_refused snapshot from to _ h = absurd h

pub target_no_path : (snapshot : Snapshot) (from to : List ℕ) (r : Refusal) → ReadsPath 1 to (Err r) → PlansMove snapshot from to (Err r)
target_no_path snapshot from to BadPath h = λ both. h both.1
target_no_path snapshot from to Memory h = h
target_no_path snapshot from to _ h = absurd h
