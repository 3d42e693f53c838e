-- The objects of packages after a planned rename: the old ones, but for the names that they print.
use Rattle.std.specs.Prelude.{ℕ, ◌≡◌, Contains, List, Ok}
use Rattle.base_files.specs.Packages.{package_paths}
use Rattle.base_files.specs.Workspace.{Workspace}
use Rattle.go_scope.specs.Bindings.{IsPackageLevel}
use Rattle.types_declared.specs.Package.{ExportData, Package}
use Rattle.workspace_check.specs.Verdicts.{Verdicts, AreVerdicts}
use Rattle.workspace_snapshot.specs.declared.change.Change.{Change}
use Rattle.workspace_snapshot.specs.declared.snapshot.Snapshot.{Snapshot}
use Rattle.refs_binding.specs.declared.declaration.Declaration.{Declaration}
use Rattle.refs_binding.specs.declared.declaration.Declaration.TheVariants.{Declared}
use Rattle.refs_binding.specs.DeclaredNames.{HasDeclaredName}
use Rattle.refs_binding.specs.Uses.{IsCheckedPackage}
use Rattle.refactor_coupled.specs.Coupling.{IsRenamedSet}
use Rattle.law_renamed_workspaces.specs.Renames.{IsMember}
use Rattle.refactor_plan.specs.Plan.{PlansRename, ResolvesIdentifier}
use Rattle.build_object.specs.Lines.{GlobalName}
use Rattle.build_object.specs.Names.{type_name}
use Rattle.build_unit.specs.Units.{IsCompiled}
use Rattle.law_objects.specs.Objects.{AreTypesOfMethods, HasObjectText, IsUnprinted, ReplacesNamesAt}
use Rattle.law_objects.specs.Replaced.{Replaced, of_global, of_methods, text_by}

-- What a rename of `d` and of all of the set does to the object of the package at the path. `x` is the workspace after it. The object stays where
-- it prints no name of `d`. Else the names of what is renamed alone are replaced: that of a package-level declaration, or those of methods of
-- types and interfaces.
pub record RenamesInObjectAt (w : Workspace) (known : Verdicts) (d : Declaration) (set : List Declaration) (name : List ℕ)
    (x : Workspace) (after : Verdicts) (path : List ℕ) :
    Type 0 where
  pub unprinted : IsUnprinted (IsCheckedPackage w known) d → (text : List ℕ) → HasObjectText w known path text → HasObjectText x after path text
  pub package_level : (own : Package) (n : ℕ) → d ≡ Declared own.path n → IsCheckedPackage w known own → IsPackageLevel own.layout n →
      ReplacesNamesAt w known x after path (of_global own.path (own.names n) name)
  pub methods : IsMember d → (called : List ℕ) → HasDeclaredName (IsCheckedPackage w known) d called → (types : List GlobalName) →
      AreTypesOfMethods w known set types → ReplacesNamesAt w known x after path (of_methods types called name)

-- It does so to the object of each package.
abbrev pub RenamesInObjects : (w : Workspace) (known : Verdicts) (d : Declaration) (set : List Declaration) (name : List ℕ) (x : Workspace) (after : Verdicts) →
    Type 0
RenamesInObjects w known d set name x after = (path : List ℕ) → RenamesInObjectAt w known d set name x after path

-- The object that a build makes of each package of x is the one that a build makes of it in w.
abbrev pub KeepBuiltObjects : (w x : Workspace) → Type 0
KeepBuiltObjects w x = (q : List ℕ) → Contains (package_paths w) q → (i j : ExportData) (old new : List ℕ) → IsCompiled w q i old → IsCompiled x q j new →
    new ≡ old

-- It is that one with these names.
abbrev pub ReplacesBuiltNames : (w x : Workspace) → Replaced → Type 0
ReplacesBuiltNames w x r = (q : List ℕ) → Contains (package_paths w) q → (i j : ExportData) (old new : List ℕ) (c : IsCompiled w q i old) →
    IsCompiled x q j new → new ≡ text_by r (type_name c.files_of) c.is_object.object

-- What a rename of `d` and of all of the set does to the objects that builds make. Their export data may differ: field names stand
-- there.
pub record RenamesBuiltObjects (w : Workspace) (known : Verdicts) (d : Declaration) (set : List Declaration) (name : List ℕ) (x : Workspace) : Type 0 where
  pub unprinted : IsUnprinted (IsCheckedPackage w known) d → KeepBuiltObjects w x
  pub package_level : (own : Package) (n : ℕ) → d ≡ Declared own.path n → IsCheckedPackage w known own → IsPackageLevel own.layout n →
      ReplacesBuiltNames w x (of_global own.path (own.names n) name)
  pub methods : IsMember d → (called : List ℕ) → HasDeclaredName (IsCheckedPackage w known) d called → (types : List GlobalName) →
      AreTypesOfMethods w known set types → ReplacesBuiltNames w x (of_methods types called name)

-- The identifier at the byte is bound to a declaration. Objects follow the rename of this and of what is renamed with it.
pub record RenamesObjects (w : Workspace) (path : List ℕ) (offset : ℕ) (name : List ℕ) (x : Workspace) : Type 0 where
  pub asked : ResolvesIdentifier w path offset
  pub set : List Declaration
  pub is_set : IsRenamedSet (IsCheckedPackage w asked.known) asked.declaration set
  pub objects : (after : Verdicts) → AreVerdicts x after → RenamesInObjects w asked.known asked.declaration set name x after
  pub built : RenamesBuiltObjects w asked.known asked.declaration set name x

-- Where a rename is planned, objects follow it.
abbrev pub PlannedRenamesRenameObjects : Type 0
PlannedRenamesRenameObjects = (snapshot : Snapshot) (path : List ℕ) (offset : ℕ) (name : List ℕ) (change : Change) →
    PlansRename snapshot path offset name (Ok change) → RenamesObjects snapshot.files path offset name change.files
