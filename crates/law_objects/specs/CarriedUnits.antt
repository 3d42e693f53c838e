-- The units of packages after a plain rename that preserves bindings.
use Rattle.std.specs.Prelude.{ℕ, ◌≡◌, List, [], ◌∷◌, Contains}
use Rattle.base_files.specs.Packages.{package_paths}
use Rattle.base_edits.specs.EditSet.{FileChanges, edited}
use Rattle.base_edits.specs.RevisionsOfEdits.{revision_of}
use Rattle.base_files.specs.Workspace.{Workspace}
use Rattle.go_ast.specs.SourceFile.{SourceFile}
use Rattle.go_scope.specs.Bindings.{IsPackageLevel}
use Rattle.types_declared.specs.Package.{Package}
use Rattle.workspace_check.specs.Verdicts.{Verdicts}
use Rattle.refs_binding.specs.declared.declaration.Declaration.{Declaration}
use Rattle.refs_binding.specs.declared.declaration.Declaration.TheVariants.{Declared}
use Rattle.refs_binding.specs.Uses.{IsCheckedPackage}
use Rattle.refactor_preserve.specs.Preserved.{Preserves}
use Rattle.build_names.specs.Words.{NameChange}
use Rattle.build_kept.specs.KnownUnits.{CarriesUnits}
use Rattle.build_object.specs.Names.{type_name}
use Rattle.build_object.specs.Objects.{Object}
use Rattle.law_renamed_workspaces.specs.KnownVerdicts.{IsUnseen}
use Rattle.law_renamed_workspaces.specs.Harmless.{IsHarmless}
use Rattle.law_renamed_workspaces.specs.Renames.{IsPlainRename}
use Rattle.law_objects.specs.Objects.{HasObject, IsUnprinted}
use Rattle.law_objects.specs.Legible.{AreLegibleNames, IsLegible, IsLegibleChange, IsLegibleObject}
use Rattle.law_renamed_workspaces.specs.RenamedData.{IsAlone}

-- Where no object prints the name of what is renamed, and other packages see nothing of it, each package keeps its unit.
abbrev pub LocalRenamesCarryUnits : Type 0
LocalRenamesCarryUnits = (w : Workspace) (before : Verdicts) (d : Declaration) (name : List ℕ) (s : FileChanges) (plain : IsPlainRename w before d name s) →
    Preserves w (revision_of w s) → IsHarmless w before (revision_of w s) → IsAlone d plain.rename.set → IsUnprinted (IsCheckedPackage w before) d →
    ((q : List ℕ) → IsUnseen w before d plain.rename.set name q) →
    CarriesUnits w (edited s w) []

-- The names in the objects of packages are legible, and so are those that types have there.
abbrev pub HasLegibleObjects : Workspace → Verdicts → Type 0
HasLegibleObjects w known = (path : List ℕ) (files_of : List ℕ → List SourceFile) (o : Object) → HasObject w known path files_of o →
    IsLegibleObject o × AreLegibleNames (type_name files_of)

-- The declaration `n` of the package gets this name.
abbrev pub change_of_name : Package → ℕ → (name : List ℕ) → NameChange
change_of_name own n name = record { path = own.path; old = own.names n; new = name }

-- Where a package-level declaration is renamed, each other package keeps its unit, with the new name in its object, if names are legible.
abbrev pub LegibleGlobalRenamesCarryUnits : Type 0
LegibleGlobalRenamesCarryUnits = (w : Workspace) (before : Verdicts) (own : Package) (n : ℕ) (name : List ℕ) (s : FileChanges) →
    IsPlainRename w before (Declared own.path n) name s → Preserves w (revision_of w s) → IsCheckedPackage w before own → IsPackageLevel own.layout n →
    IsLegibleChange (change_of_name own n name) → HasLegibleObjects w before → CarriesUnits w (edited s w) (change_of_name own n name ∷ [])

-- No path of a package has a byte that stands between words in objects, or a `#`.
abbrev pub AreLegiblePaths : Workspace → Type 0
AreLegiblePaths w = (p : List ℕ) → Contains (package_paths w) p → IsLegible p

-- So it is in each workspace without faults where the paths of packages are legible: identifiers are legible, and no other name gets into
-- objects.
abbrev pub GlobalRenamesCarryUnits : Type 0
GlobalRenamesCarryUnits = (w : Workspace) (before : Verdicts) (own : Package) (n : ℕ) (name : List ℕ) (s : FileChanges) →
    IsPlainRename w before (Declared own.path n) name s → Preserves w (revision_of w s) → IsCheckedPackage w before own → IsPackageLevel own.layout n →
    AreLegiblePaths w → CarriesUnits w (edited s w) (change_of_name own n name ∷ [])
