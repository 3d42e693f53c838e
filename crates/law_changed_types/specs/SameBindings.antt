-- Two packages of one layout under which each identifier is bound to one and the same declaration: types, meanings and names stay.
use Rattle.std.specs.Prelude.{ℕ, suc, ◌≡◌, ◌↔◌, true, List, Option, Some, map, All}
use Rattle.go_ast.specs.SourceFile.{SourceFile, FileParts}
use Rattle.go_ast.specs.Tree.{FileTree, TypeTree, Local, Imported, Pointer, Slice}
use Rattle.go_scope.specs.declared.model.Role.TheVariants.{NotLexical}
use Rattle.go_scope.specs.declared.model.Purpose.TheVariants as purpose
use Rattle.go_scope.specs.Bindings.{is_implied}
use Rattle.go_scope.specs.Table.{IsFoundAt}
use Rattle.law_rename.specs.Renaming.{HasSameBindings}
use Rattle.law_tokens.specs.Covered.{AreSourceFiles}
use Rattle.types_expr.specs.declared.symbol.Symbol.{Symbol}
use Rattle.types_expr.specs.Types.{PlainType, Underlying}
use Rattle.types_expr.specs.World.{World, Bound}
use Rattle.types_declared.specs.Package.{Package, Export, ExportData, package_variables, package_types, package_functions, spelled}
use Rattle.types_declared.specs.Written.{BindsToken, DeclaresImport, DenotesType, IsBroken, written_types}
use Rattle.types_declared.specs.MeaningOf.{IsMeaningOf, parameter_types, result_types}
use Rattle.types_declared.specs.Definitions.{HasUnderlying}
use Rattle.types_info.specs.PackageOf.{IsPackageOf}
use Rattle.types_info.specs.Worlds.{IsName, IsWorldOf}

-- The trees and the paths of files.
abbrev pub trees_of : List SourceFile → List FileTree
trees_of files = map (λ f. f.tree) files

abbrev pub paths_of : List SourceFile → List (List ℕ)
paths_of files = map (λ f. f.path) files

-- The package is that of parsed files, whatever names its imports without a name declare.
pub record IsParsedPackage (p : Package) : Type 0 where
  pub path : List ℕ
  pub files : List FileParts
  pub sources : AreSourceFiles files
  pub name_of : List ℕ → Option (List ℕ)
  pub export_data_of : List ℕ → ExportData
  pub is_package : IsPackageOf path files name_of export_data_of p

-- The identifier at the token is a selector: it is behind a dot.
pub record IsSelectedAt (p : Package) (file token : ℕ) : Type 0 where
  pub identifier : ℕ
  pub found : IsFoundAt p.layout p.size (record { file = file; index = token }) identifier
  pub selected : p.layout.role identifier ≡ NotLexical purpose.Selected

-- In a qualified type `p.T` the name `T` is the second token behind `p`, and a selector.
abbrev pub IsDotted : Package → ℕ → TypeTree → Type 0
IsDotted p file (Local n) = Unit {0}
IsDotted p file (Imported q d n) = (n ≡ suc (suc q)) × IsSelectedAt p file n
IsDotted p file (Pointer s t) = IsDotted p file t
IsDotted p file (Slice o c t) = IsDotted p file t

-- That is so in each type expression of the package's variables, type definitions and functions.
pub record AreTypesDotted (p : Package) : Type 0 where
  pub variables : All (λ v. IsDotted p v.file v.type_use) (package_variables p)
  pub definitions : All (λ d. All (IsDotted p d.file) (written_types d.spec.body)) (package_types p)
  pub parameters : All (λ f. All (IsDotted p f.file) (parameter_types f.function.params)) (package_functions p)
  pub results : All (λ f. All (IsDotted p f.file) (result_types f.function.result)) (package_functions p)

-- The package q has the path, the layout and the trees of p, and each identifier is bound as it was. Imported packages export the same
-- under the names behind a dot, and their definitions have the same underlying types.
pub record IsBoundAlike (p q : Package) : Type 0 where
  pub path : q.path ≡ p.path
  pub size : q.size ≡ p.size
  pub layout : q.layout ≡ p.layout
  pub trees : trees_of q.files ≡ trees_of p.files
  pub bindings : HasSameBindings p.layout p.names q.names
  pub predeclared : (d : ℕ) → is_implied (p.layout.role d) ≡ true → q.names d ≡ p.names d
  pub imports : (d : ℕ) (path : List ℕ) → DeclaresImport p d path ↔ DeclaresImport q d path
  pub parsed : IsParsedPackage p
  pub sees : (d file token : ℕ) (path : List ℕ) (e : Export) → BindsToken p file token d → DeclaresImport p d path →
      IsSelectedAt p file (suc (suc token)) →
      ((p.export_data_of path).exported (spelled p file (suc (suc token))) ≡ Some e) ↔
      ((q.export_data_of path).exported (spelled q file (suc (suc token))) ≡ Some e)
  pub underlying : (path : List ℕ) (rank : ℕ) →
      ((q.export_data_of path).definition rank).underlying ≡ ((p.export_data_of path).definition rank).underlying

-- In packages of parsed files, names of qualified types follow dots.
abbrev pub TypesAreDotted : Type 0
TypesAreDotted = (p : Package) → IsParsedPackage p → AreTypesDotted p

-- The name at a token is bound to the same declaration.
abbrev pub TokensStay : Type 0
TokensStay = (p q : Package) → IsBoundAlike p q → (file token d : ℕ) → BindsToken p file token d ↔ BindsToken q file token d

-- Type expressions name the same types.
abbrev pub TypesStay : Type 0
TypesStay = (p q : Package) → IsBoundAlike p q → (file : ℕ) (tree : TypeTree) (t : PlainType) → IsDotted p file tree →
    DenotesType p file tree t ↔ DenotesType q file tree t

-- The same definitions are broken.
abbrev pub BrokenStay : Type 0
BrokenStay = (p q : Package) → IsBoundAlike p q → (rank : ℕ) → IsBroken p rank ↔ IsBroken q rank

-- Types have the same underlying types.
abbrev pub UnderlyingStay : Type 0
UnderlyingStay = (p q : Package) → IsBoundAlike p q → (t : PlainType) (u : Underlying) → HasUnderlying p t u ↔ HasUnderlying q t u

-- Declarations have the same meanings.
abbrev pub MeaningsStay : Type 0
MeaningsStay = (p q : Package) → IsBoundAlike p q → (d : ℕ) (b : Bound) → IsMeaningOf p d b ↔ IsMeaningOf q d b

-- The names at tokens, qualified ones too, have the same meanings.
abbrev pub NamesStay : Type 0
NamesStay = (p q : Package) → IsBoundAlike p q → (file token : ℕ) (b : Bound) → IsName p file token b ↔ IsName q file token b

-- The worlds of a file bind its tokens alike, and have the same underlying types. Members may have other names.
abbrev pub WorldsBindAlike : Type 0
WorldsBindAlike = (p q : Package) → IsBoundAlike p q → (file : ℕ) (f g : SourceFile) (v x : World) → IsWorldOf p file f v → IsWorldOf q file g x →
    ((token : ℕ) → x.bound token ≡ v.bound token) × ((s : Symbol) → x.definition s ≡ v.definition s)
