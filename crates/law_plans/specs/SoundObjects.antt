-- The objects of packages without faults, after a rename that is planned beside packages with faults.
use Rattle.std.specs.Prelude.{ℕ, List, Ok}
use Rattle.base_files.specs.Workspace.{Workspace}
use Rattle.workspace_check.specs.Verdicts.{Verdicts, AreVerdicts}
use Rattle.workspace_snapshot.specs.declared.change.Change.{Change}
use Rattle.workspace_snapshot.specs.declared.snapshot.Snapshot.{Snapshot}
use Rattle.refs_binding.specs.declared.declaration.Declaration.{Declaration}
use Rattle.refs_binding.specs.Uses.{IsCheckedPackage}
use Rattle.refactor_coupled.specs.Coupling.{IsRenamedSet}
use Rattle.refactor_plan.specs.Plan.{ResolvesIdentifier}
use Rattle.refactor_affected.specs.Renames.{PlansAffectedRename, part_asked}
use Rattle.refactor_units.specs.PlannedObjects.{RenamesInObjectAt}
use Rattle.law_plans.specs.SoundPackages.{IsSoundPackage}

-- What the rename of `d`, which makes `x` of `w`, does to the object of each package without faults: what a planned rename does to each.
abbrev pub RenamesInSoundObjects : (w : Workspace) (known : Verdicts) (d : Declaration) (set : List Declaration) (name : List ℕ)
    (x : Workspace) (after : Verdicts) →
    Type 0
RenamesInSoundObjects w known d set name x after = (path : List ℕ) → IsSoundPackage w known path → RenamesInObjectAt w known d set name x after path

-- The identifier at the byte is bound to a declaration in the part `v` of the workspace. The objects of packages without faults follow the
-- rename of this and of what is renamed with it, which makes `x`.
pub record RenamesSoundObjects (w v : Workspace) (known : Verdicts) (path : List ℕ) (offset : ℕ) (name : List ℕ) (x : Workspace) : Type 0 where
  pub asked : ResolvesIdentifier v path offset
  pub set : List Declaration
  pub is_set : IsRenamedSet (IsCheckedPackage v asked.known) asked.declaration set
  pub objects : (after : Verdicts) → AreVerdicts x after → RenamesInSoundObjects w known asked.declaration set name x after

-- So it is where a rename is planned.
abbrev pub AffectedRenamesRenameObjects : Type 0
AffectedRenamesRenameObjects = (snapshot : Snapshot) (path : List ℕ) (offset : ℕ) (name : List ℕ) (change : Change) →
    (planned : PlansAffectedRename snapshot path offset name (Ok change)) →
    RenamesSoundObjects snapshot.files (part_asked planned.0) planned.0.sound.known path offset name change.files
