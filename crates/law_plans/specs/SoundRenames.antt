-- What an admitted rename does to a history whose files may have faults.
use Rattle.std.specs.Prelude.{ℕ, ◌≡◌, ◌↔◌, [], List, Result, Ok}
use Rattle.base_files.specs.declared.refusal.Refusal.{Refusal}
use Rattle.base_files.specs.Workspace.{Workspace}
use Rattle.base_edits.specs.EditSet.{FileChanges, edited}
use Rattle.base_edits.specs.RevisionsOfEdits.{revision_of}
use Rattle.workspace_check.specs.FaultLists.{ListsFaults}
use Rattle.workspace_snapshot.specs.declared.snapshot.Snapshot.{Snapshot}
use Rattle.workspace_snapshot.specs.declared.change.Change.{Change}
use Rattle.history_machine.specs.declared.event.Event.{Event}
use Rattle.history_machine.specs.declared.event.Event.TheVariants.{Commit, Undo}
use Rattle.history_machine.specs.declared.event.Reply.{Reply}
use Rattle.history_machine.specs.declared.event.Reply.TheVariants.{Done}
use Rattle.history_machine.specs.Machine.{Machine}
use Rattle.history_machine.specs.Step.{Step}
use Rattle.history_machine.specs.Run.{Run, AdmitsNoChange, Restores}
use Rattle.refs_binding.specs.DeclaredNames.{HasDeclaredName}
use Rattle.refs_binding.specs.Uses.{IsCheckedPackage}
use Rattle.refactor_coupled.specs.Obstacles.{PreservesAll}
use Rattle.refactor_rename.specs.RenameEdits.{AreRenameEdits}
use Rattle.refactor_plan.specs.Plan.{IsLegalName, PlansRename, RenamesIdentifier}
use Rattle.refactor_affected.specs.Renames.{IsAskedInSound, IsAffectedByRename, IsSoundRename, PlansAffectedRename, part_asked}
use Rattle.law_plans.specs.SoundPackages.{AreSoundAfter, PreservesSound, LeavesOthers}

-- The edits rename the identifier at the byte, in the packages without faults, and make the files `after` of `w`. No affected package has a
-- fault before them or after them. Packages without faults have none after them, and keep their bindings. Among their types the same ones
-- implement the same interfaces. Packages that the rename does not affect keep their closures and their units.
pub record RenamesSound (w : Workspace) (path : List ℕ) (offset : ℕ) (name : List ℕ) (s : FileChanges) (after : Workspace) : Type 0 where
  pub asked : IsAskedInSound w path name
  pub affected_sound : IsSoundRename w (part_asked asked) path offset
  pub renaming : RenamesIdentifier (part_asked asked) path offset name s
  pub files : after ≡ edited s w
  pub preserves : PreservesSound w (revision_of w s)
  pub in_part : PreservesAll (part_asked asked) (revision_of (part_asked asked) s)
  pub affected_after : AreSoundAfter w (revision_of w s) (IsAffectedByRename w (part_asked asked) path offset)
  pub others : LeavesOthers w after (IsAffectedByRename w (part_asked asked) path offset)

-- The edits that rename an identifier and what is renamed with it in the workspace `v` rename all of this in `w`: each identifier there that
-- is bound to one of these declarations.
pub record RenamesAll (w v : Workspace) (path : List ℕ) (offset : ℕ) (name : List ℕ) (s : FileChanges) (renaming : RenamesIdentifier v path offset name s) :
    Type 0 where
  pub may : IsLegalName w path offset name
  pub same : may.renamable.asked.declaration ≡ renaming.may.renamable.asked.declaration
  pub other : ¬ (HasDeclaredName (IsCheckedPackage w may.renamable.asked.known) may.renamable.asked.declaration name)
  pub edits : AreRenameEdits w may.renamable.asked.known may.renamable.asked.declaration renaming.set name s

-- Where a rename is planned, its edits rename all that it renames in the whole workspace. So no identifier of a package with faults is bound
-- to one of these declarations. Methods are coupled by types of packages without faults alone.
abbrev pub AffectedRenamesRenameAll : Type 0
AffectedRenamesRenameAll = (snapshot : Snapshot) (path : List ℕ) (offset : ℕ) (name : List ℕ) (change : Change)
    → (planned : PlansAffectedRename snapshot path offset name (Ok change))
    → RenamesAll snapshot.files (part_asked planned.0) path offset name change.edits planned.1.renaming

-- Where a planned rename is committed, so it is with the files of the states before and after it.
abbrev pub RenamesKeepSoundBindings : Type 0
RenamesKeepSoundBindings = (snapshot : Snapshot) (path : List ℕ) (offset : ℕ) (name : List ℕ) (change : Change) (old new : Machine) (basis number : ℕ)
    → PlansAffectedRename snapshot path offset name (Ok change)
    → Step old (Commit basis change) (Done number) new
    → RenamesSound old.current.files path offset name change.edits new.current.files

-- Where a planned rename is committed and only quiet events follow, undo restores the state before the rename, or changes nothing.
abbrev pub UndoTakesAffectedRenamesBack : Type 0
UndoTakesAffectedRenamesBack = (snapshot : Snapshot) (path : List ℕ) (offset : ℕ) (name : List ℕ) (change : Change) (start changed settled end : Machine)
    (basis number : ℕ)
    (between : List (Event × Reply)) (reply : Reply)
    → PlansAffectedRename snapshot path offset name (Ok change)
    → Step start (Commit basis change) (Done number) changed
    → Run changed between settled → AdmitsNoChange between
    → Step settled (Undo settled.current.number) reply end
    → Restores start.current settled reply end

-- In a workspace without faults a rename is planned as if faults were asked of all packages.
abbrev pub SoundWorkspacesPlanRenames : Type 0
SoundWorkspacesPlanRenames = (snapshot : Snapshot) (path : List ℕ) (offset : ℕ) (name : List ℕ) (planned : Result Change Refusal)
    → ListsFaults snapshot.files []
    → PlansAffectedRename snapshot path offset name planned ↔ PlansRename snapshot path offset name planned
