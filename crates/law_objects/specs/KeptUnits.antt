-- The units of packages after a plain rename that preserves bindings and renames what no object prints: the old ones.
use Rattle.std.specs.Prelude.{Contains, List, ℕ}
use Rattle.base_edits.specs.EditSet.{FileChanges, edited}
use Rattle.base_edits.specs.RevisionsOfEdits.{revision_of}
use Rattle.base_files.specs.Packages.{package_paths}
use Rattle.base_files.specs.Workspace.{Workspace}
use Rattle.workspace_check.specs.Verdicts.{Verdicts}
use Rattle.refs_binding.specs.declared.declaration.Declaration.{Declaration}
use Rattle.refs_binding.specs.Uses.{IsCheckedPackage}
use Rattle.refactor_preserve.specs.Preserved.{Preserves}
use Rattle.build_unit.specs.Units.{IsUnitOf}
use Rattle.build_unit.specs.declared.unit.Unit.{Unit as PackageUnit}
use Rattle.law_renamed_workspaces.specs.KnownVerdicts.{IsUnseen}
use Rattle.law_renamed_workspaces.specs.Harmless.{IsHarmless}
use Rattle.law_renamed_workspaces.specs.Renames.{IsPlainRename}
use Rattle.law_objects.specs.Objects.{IsUnprinted}
use Rattle.law_renamed_workspaces.specs.RenamedData.{IsAlone}

-- The unit of the package p of w is its unit in x too.
abbrev pub KeepsUnitOf : (w x : Workspace) → (p : List ℕ) → Type 0
KeepsUnitOf w x p = Contains (package_paths w) p → (unit : PackageUnit) → IsUnitOf w p unit → IsUnitOf x p unit

-- A package keeps its unit if the rename changes nothing that others see of it, and what is renamed prints no name.
abbrev pub UnprintedRenamesKeepUnits : Type 0
UnprintedRenamesKeepUnits = (w : Workspace) (before : Verdicts) (d : Declaration) (name : List ℕ) (s : FileChanges) (plain : IsPlainRename w before d name s) →
    Preserves w (revision_of w s) → IsHarmless w before (revision_of w s) → IsAlone d plain.rename.set →
    IsUnprinted (IsCheckedPackage w before) d → (q : List ℕ) → IsUnseen w before d plain.rename.set name q → KeepsUnitOf w (edited s w) q
