-- What a change does to the packages without faults of a workspace, in which other packages may have faults. What it does to packages that
-- it does not affect.
use Rattle.std.specs.Prelude.{ℕ, ◌≡◌, ◌↔◌, false, List, Contains}
use Rattle.base_files.specs.Packages.{package_paths}
use Rattle.base_files.specs.Path.{folder}
use Rattle.base_files.specs.Workspace.{Workspace}
use Rattle.base_files.specs.declared.place.Place.{Place}
use Rattle.base_edits.specs.Revisions.{Revision, PackageMovesTo}
use Rattle.workspace_check.specs.Closures.{HasSameClosure}
use Rattle.workspace_check.specs.Verdicts.{Verdicts, AreVerdicts}
use Rattle.build_unit.specs.Units.{IsUnitOf}
use Rattle.build_unit.specs.declared.unit.Unit.{Unit as PackageUnit}
use Rattle.refs_binding.specs.declared.declaration.Declaration.{Declaration}
use Rattle.refs_binding.specs.Uses.{IsCheckedPackage, IsUseOf}
use Rattle.refs_places.specs.Identified.{IsIdentifierAt}
use Rattle.refactor_conflict.specs.Corresponding.{Corresponds}
use Rattle.refactor_preserve.specs.BoundToOne.{IsBoundToOne}

-- The path is that of a package of the workspace, and by these verdicts the package has no fault.
pub record IsSoundPackage (w : Workspace) (known : Verdicts) (path : List ℕ) : Type 0 where
  pub is_package : Contains (package_paths w) path
  pub sound : (known path).faulty ≡ false

-- Each identifier of a package without faults stays bound to what its declaration has become, and is bound to nothing more.
pub record KeepsSoundBindings (w : Workspace) (before : Verdicts) (r : Revision) (after : Verdicts) : Type 0 where
  pub keeps : (place : Place) (d : Declaration) → IsSoundPackage w before (folder place.path) → IsUseOf w before d place →
      IsBoundToOne r.after after (r.moved place) (λ e. Corresponds (IsCheckedPackage w before) (IsCheckedPackage r.after after) r.moved d e)
  pub adds_none : (place : Place) (e : Declaration) → IsSoundPackage w before (folder place.path) → IsIdentifierAt w before place →
      IsUseOf r.after after e (r.moved place) →
      IsBoundToOne w before place (λ d. Corresponds (IsCheckedPackage w before) (IsCheckedPackage r.after after) r.moved d e)

-- A package without faults has none after the change, at the path to which the change moves it. Its identifiers keep their bindings. So it is
-- by any right verdicts on the packages after the change, and `after` are such verdicts.
pub record PreservesSound (w : Workspace) (r : Revision) : Type 0 where
  pub before : Verdicts
  pub right : AreVerdicts w before
  pub after : Verdicts
  pub right_after : AreVerdicts r.after after
  pub sound : (known : Verdicts) → AreVerdicts r.after known → (path to : List ℕ) → IsSoundPackage w before path → PackageMovesTo w r path to →
      IsSoundPackage r.after known to
  pub kept : (known : Verdicts) → AreVerdicts r.after known → KeepsSoundBindings w before r known

-- There are right verdicts on the packages after the change. By each of them, a package for whose path `P` holds has no fault then, at the
-- path to which the change moves it.
pub record AreSoundAfter (w : Workspace) (r : Revision) (P : List ℕ → Type 0) : Type 0 where
  pub after : Verdicts
  pub right_after : AreVerdicts r.after after
  pub sound : (known : Verdicts) → AreVerdicts r.after known → (path to : List ℕ) → Contains (package_paths w) path → P path →
      PackageMovesTo w r path to → IsSoundPackage r.after known to

-- Each package for whose path `P` does not hold has the same closure after the change, with the same texts. Its unit is the same: its faults,
-- or its export data and its object.
pub record LeavesOthers (w after : Workspace) (P : List ℕ → Type 0) : Type 0 where
  pub closures : (path : List ℕ) → Contains (package_paths w) path → (P path → ⊥) → HasSameClosure w after path
  pub units : (path : List ℕ) → Contains (package_paths w) path → (P path → ⊥) → (unit : PackageUnit) → IsUnitOf w path unit ↔ IsUnitOf after path unit
