-- The objects of packages after a plain rename that preserves bindings: the old ones, but for the names that they print.
use Rattle.std.specs.Prelude.{ℕ, ◌≡◌, ◌↔◌, List, Some, Contains, slice_get}
use Rattle.base_files.specs.Workspace.{Workspace}
use Rattle.base_edits.specs.EditSet.{FileChanges, edited}
use Rattle.base_edits.specs.RevisionsOfEdits.{revision_of}
use Rattle.go_ast.specs.SourceFile.{SourceFile}
use Rattle.go_ast.specs.Tree.{Item, TypeTree, ParamTree, ResultTree}
use Rattle.go_scope.specs.Bindings.{IsPackageLevel}
use Rattle.types_expr.specs.declared.symbol.Symbol.{Symbol}
use Rattle.types_declared.specs.Package.{Package, PlacedFunction, PlacedType, package_functions, package_types, spelled}
use Rattle.types_declared.specs.Definitions.{PlacedField, package_fields, OfType, OfSignature}
use Rattle.types_members.specs.MethodsView.{IsOwner}
use Rattle.workspace_check.specs.Verdicts.{Verdicts, AreVerdicts}
use Rattle.refs_binding.specs.declared.declaration.Declaration.{Declaration}
use Rattle.refs_binding.specs.declared.declaration.Declaration.TheVariants.{Predeclared, Declared, Field, Method}
use Rattle.refs_binding.specs.DeclaredNames.{HasDeclaredName}
use Rattle.refs_binding.specs.DeclaringPlaces.{InPackage}
use Rattle.refs_binding.specs.Uses.{IsCheckedPackage}
use Rattle.refactor_preserve.specs.Preserved.{Preserves}
use Rattle.build_object.specs.Lines.{GlobalName}
use Rattle.build_object.specs.Names.{type_name}
use Rattle.build_object.specs.Objects.{Object}
use Rattle.build_object.specs.ObjectText.{object_text}
use Rattle.build_object.specs.Sources.{IsObjectOf}
use Rattle.build_unit.specs.Units.{AreFilesBelow}
use Rattle.law_renamed_workspaces.specs.Harmless.{IsHarmless}
use Rattle.law_renamed_workspaces.specs.Renames.{IsMember, IsPlainRename}
use Rattle.law_objects.specs.Replaced.{Replaced, text_by, of_global, of_method, of_methods}
use Rattle.law_renamed_workspaces.specs.RenamedData.{IsAlone}

-- `o` is the object of the package at the path. `files_of` gives the files in which its code looks up names.
pub record HasObject (w : Workspace) (known : Verdicts) (path : List ℕ) (files_of : List ℕ → List SourceFile) (o : Object) : Type 0 where
  pub checked : Package
  pub is_package : IsCheckedPackage w known checked
  pub of_path : checked.path ≡ path
  pub are_files : AreFilesBelow w path files_of
  pub is_object : IsObjectOf checked files_of o

-- `text` is the text of the object of the package at the path.
pub record HasObjectText (w : Workspace) (known : Verdicts) (path text : List ℕ) : Type 0 where
  pub files_of : List ℕ → List SourceFile
  pub object : Object
  pub has : HasObject w known path files_of object
  pub printed : text ≡ object_text (type_name files_of) object

-- In `x` the object of the package at the path has the text of the old one in `w` with these names.
abbrev pub ReplacesNamesAt : (w : Workspace) (before : Verdicts) (x : Workspace) (after : Verdicts) (path : List ℕ) → Replaced → Type 0
ReplacesNamesAt w before x after path r = (files_of : List ℕ → List SourceFile) (o : Object) → HasObject w before path files_of o →
    HasObjectText x after path (text_by r (type_name files_of) o)

-- So has that of each package.
abbrev pub ReplacesNames : (w : Workspace) (before : Verdicts) (x : Workspace) (after : Verdicts) → Replaced → Type 0
ReplacesNames w before x after r = (path : List ℕ) → ReplacesNamesAt w before x after path r

-- The written member of this rank is a field of a struct.
pub record IsFieldOfType (p : Package) (rank : ℕ) : Type 0 where
  pub field : PlacedField
  pub has_rank : slice_get (package_fields p) rank ≡ Some field
  pub type_use : TypeTree
  pub form : field.form ≡ OfType type_use

-- No object prints the name of the declaration: it is a field of a struct, or declared in a scope within a package's files or functions. What
-- an interface asks for is printed.
abbrev pub IsUnprinted : (Package → Type 0) → Declaration → Type 0
IsUnprinted Known (Predeclared n) = ⊥
IsUnprinted Known (Declared path n) = InPackage Known path (λ p. IsPackageLevel p.layout n → ⊥)
IsUnprinted Known (Field s) = InPackage Known s.package (λ p. IsFieldOfType p s.rank)
IsUnprinted Known (Method s) = ⊥

-- The object of each package stays byte for byte where what is renamed prints no name. That is a local, a parameter, a receiver, the name
-- of an import, or a field of a struct.
abbrev pub UnprintedRenamesKeepObjects : Type 0
UnprintedRenamesKeepObjects = (w : Workspace) (before after : Verdicts) (d : Declaration) (name : List ℕ) (s : FileChanges) →
    (plain : IsPlainRename w before d name s) → AreVerdicts (edited s w) after → IsHarmless w before (revision_of w s) → IsAlone d plain.rename.set →
    IsUnprinted (IsCheckedPackage w before) d → (path text : List ℕ) → HasObjectText w before path text → HasObjectText (edited s w) after path text

-- Where a package-level declaration is renamed, its name alone is replaced, also in the names of the methods of a type.
abbrev pub GlobalRenamesReplaceNames : Type 0
GlobalRenamesReplaceNames = (w : Workspace) (before after : Verdicts) (own : Package) (n : ℕ) (name : List ℕ) (s : FileChanges) →
    IsPlainRename w before (Declared own.path n) name s → AreVerdicts (edited s w) after → Preserves w (revision_of w s) → IsCheckedPackage w before own →
    IsPackageLevel own.layout n → ReplacesNames w before (edited s w) after (of_global own.path (own.names n) name)

-- `name` is the name of the type of the method.
pub record IsOwnerCalled (w : Workspace) (known : Verdicts) (method : Symbol) (name : List ℕ) : Type 0 where
  pub own : Package
  pub is_package : IsCheckedPackage w known own
  pub of_path : own.path ≡ method.package
  pub function : PlacedFunction
  pub has_rank : slice_get (package_functions own) method.rank ≡ Some function
  pub definition : ℕ
  pub of_type : IsOwner own function definition
  pub spec : PlacedType
  pub is_type : slice_get (package_types own) definition ≡ Some spec
  pub called : spelled own spec.file spec.spec.name ≡ name

-- Where a method is renamed, its name of its type alone is replaced.
abbrev pub MethodRenamesReplaceNames : Type 0
MethodRenamesReplaceNames = (w : Workspace) (before after : Verdicts) (method : Symbol) (called type_called name : List ℕ) (s : FileChanges) →
    (plain : IsPlainRename w before (Method method) name s) → AreVerdicts (edited s w) after → IsHarmless w before (revision_of w s) →
    IsAlone (Method method) plain.rename.set → HasDeclaredName (IsCheckedPackage w before) (Method method) called → IsOwnerCalled w before method type_called →
    ReplacesNames w before (edited s w) after (of_method method.package type_called called name)

-- `name` is the name of the type definition whose interface asks for the method.
pub record IsInterfaceCalled (w : Workspace) (known : Verdicts) (asked : Symbol) (name : List ℕ) : Type 0 where
  pub own : Package
  pub is_package : IsCheckedPackage w known own
  pub of_path : own.path ≡ asked.package
  pub member : PlacedField
  pub has_rank : slice_get (package_fields own) asked.rank ≡ Some member
  pub params : List (Item ParamTree)
  pub result : ResultTree
  pub form : member.form ≡ OfSignature params result
  pub spec : PlacedType
  pub is_type : slice_get (package_types own) member.definition ≡ Some spec
  pub called : spelled own spec.file spec.spec.name ≡ name

-- `g` is the name of the type of the method in objects: of its receiver, or of the interface that asks for it. Fields of structs have none.
abbrev pub IsTypeOfMethod : (w : Workspace) (known : Verdicts) → Declaration → GlobalName → Type 0
IsTypeOfMethod w known (Predeclared n) g = ⊥
IsTypeOfMethod w known (Declared path n) g = ⊥
IsTypeOfMethod w known (Field s) g = (g.path ≡ s.package) × IsInterfaceCalled w known s g.name
IsTypeOfMethod w known (Method s) g = (g.path ≡ s.package) × IsOwnerCalled w known s g.name

-- The list has just the names of the types of these methods.
abbrev pub AreTypesOfMethods : (w : Workspace) (known : Verdicts) → (set : List Declaration) → (types : List GlobalName) → Type 0
AreTypesOfMethods w known set types = (g : GlobalName) → Contains types g ↔ ((e : Declaration) × (Contains set e × IsTypeOfMethod w known e g))

-- Where members are renamed together, their names of their types alone are replaced.
abbrev pub MemberRenamesReplaceNames : Type 0
MemberRenamesReplaceNames = (w : Workspace) (before after : Verdicts) (d : Declaration) (called name : List ℕ) (s : FileChanges) →
    (plain : IsPlainRename w before d name s) → IsMember d → AreVerdicts (edited s w) after → IsHarmless w before (revision_of w s) →
    HasDeclaredName (IsCheckedPackage w before) d called → (types : List GlobalName) → AreTypesOfMethods w before plain.rename.set types →
    ReplacesNames w before (edited s w) after (of_methods types called name)
