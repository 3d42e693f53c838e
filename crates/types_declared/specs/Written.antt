-- The types that type expressions name, and broken definitions: those with a type expression that names no type or mentions a broken
-- definition.
use Rattle.std.specs.Prelude.{ℕ, ◌≡◌, true, List, [], ◌∷◌, ◌++◌, map, Some, slice_get, Contains, codes}
use Rattle.std.specs.List.{flat_map}
use Rattle.go_ast.specs.Tree.{Item, TypeTree, Local, Imported, Pointer, Slice, BodyTree, Other, Struct, Interface, ParamTree, ResultTree, MethodTree}
use Rattle.go_ast.specs.Tree.{no_result, one_result, results}
use Rattle.go_scope.specs.declared.model.Block.TheVariants.{Universe}
use Rattle.go_scope.specs.Bindings.{IsBoundTo, IsImport, block_of, is_implied}
use Rattle.go_scope.specs.Table.{IsFoundAt}
use Rattle.types_expr.specs.declared.types.Basic.{Basic}
use Rattle.types_expr.specs.declared.types.Basic.TheVariants as basic
use Rattle.types_expr.specs.Types.{PlainType, BasicType, Defined, TypeName}
use Rattle.types_expr.specs.Types.{Pointer as PointerType, Slice as SliceType}
use Rattle.types_declared.specs.Laid.{IsPathOf}
use Rattle.types_declared.specs.Package.{Package, Export, PlacedType, IsRanked, package_types, type_place, laid_of, symbol_in, spelled}

-- the identifier at the token is bound to the declaration d
pub record BindsToken (p : Package) (file token d : ℕ) : Type 0 where
  pub identifier : ℕ
  pub found : IsFoundAt p.layout p.size (record { file = file; index = token }) identifier
  pub bound : IsBoundTo p.layout p.names identifier d

-- d is the predeclared declaration of the name, which has no identifier in the package
pub record IsPredeclared (p : Package) (d : ℕ) (name : List ℕ) : Type 0 where
  pub implied : is_implied (p.layout.role d) ≡ true
  pub universe : block_of (p.layout.role d) ≡ Universe
  pub named : p.names d ≡ name

-- d declares the type definition of this rank
abbrev pub DeclaresType : Package → (d rank : ℕ) → Type 0
DeclaresType p d rank = IsRanked type_place (package_types p) p.layout d rank

-- d declares an import of this path
pub record DeclaresImport (p : Package) (d : ℕ) (path : List ℕ) : Type 0 where
  pub is_import : IsImport p.layout d
  pub of_path : IsPathOf p.files (laid_of p) d path

-- the names of the predeclared types
abbrev pub basic_name : Basic → List ℕ
basic_name basic.Bool = codes "bool"
basic_name basic.Int = codes "int"
basic_name basic.String = codes "string"

-- the package of the import d exports e under the name spelled at the token
pub record IsExportOf (p : Package) (d file name : ℕ) (e : Export) : Type 0 where
  pub path : List ℕ
  pub imports : DeclaresImport p d path
  pub exported : (p.export_data_of path).exported (spelled p file name) ≡ Some e

-- the qualified identifier `p.N` denotes the export e: p is bound to an import whose package exports e as N
pub record IsExportAt (p : Package) (file qualifier name : ℕ) (e : Export) : Type 0 where
  pub import : ℕ
  pub binds : BindsToken p file qualifier import
  pub of_import : IsExportOf p import file name e

-- the qualified identifier `p.T` names the type t
pub record NamesExport (p : Package) (file qualifier name : ℕ) (t : PlainType) : Type 0 where
  pub export : Export
  pub exported : IsExportAt p file qualifier name export
  pub is_type : export.meaning ≡ TypeName t

-- the type expression names the type t, whether or not the definition of t is broken
pub data DenotesType (p : Package) (file : ℕ) : TypeTree → PlainType → Type 0 where
  predeclared : {n d : ℕ} (b : Basic) → BindsToken p file n d → IsPredeclared p d (basic_name b) → DenotesType p file (Local n) (BasicType b)
  defined : {n d rank : ℕ} → BindsToken p file n d → DeclaresType p d rank → DenotesType p file (Local n) (Defined (symbol_in p rank))
  imported : {q d n : ℕ} {t : PlainType} → NamesExport p file q n t → DenotesType p file (Imported q d n) t
  pointer : {s : ℕ} {tree : TypeTree} {t : PlainType} → DenotesType p file tree t → DenotesType p file (Pointer s tree) (PointerType t)
  slice : {o c : ℕ} {tree : TypeTree} {t : PlainType} → DenotesType p file tree t → DenotesType p file (Slice o c tree) (SliceType t)

-- the type expressions of results
abbrev pub result_types : ResultTree → List TypeTree
result_types no_result = []
result_types (one_result t) = t ∷ []
result_types (results o ts c) = map (λ i. i.value) ts

-- the type expressions of parameters and results, each once
abbrev pub signature_types : List (Item ParamTree) → ResultTree → List TypeTree
signature_types ps r = map (λ i. i.value.type_use) ps ++ result_types r

-- the type expressions of methods that an interface asks for
abbrev pub asked_types : List (Item MethodTree) → List TypeTree
asked_types ms = flat_map (λ i. signature_types i.value.params i.value.result) ms

-- the type expressions of a definition: its type, the types of its struct's fields, or those of the methods that its interface asks for
abbrev pub written_types : BodyTree → List TypeTree
written_types (Other t) = t ∷ []
written_types (Struct k o fs c) = map (λ f. f.value.type_use) fs
written_types (Interface k o ms c) = asked_types ms

-- those whose values are in a value of the definition: an interface has none
abbrev pub contained_types : BodyTree → List TypeTree
contained_types (Other t) = t ∷ []
contained_types (Struct k o fs c) = map (λ f. f.value.type_use) fs
contained_types (Interface k o ms c) = []

-- the type expression mentions the definition of this rank: it names it, itself or under pointers and slices
pub data Mentions (p : Package) (file : ℕ) : TypeTree → ℕ → Type 0 where
  by_name : {n d rank : ℕ} → BindsToken p file n d → DeclaresType p d rank → Mentions p file (Local n) rank
  by_pointer : {s rank : ℕ} {t : TypeTree} → Mentions p file t rank → Mentions p file (Pointer s t) rank
  by_slice : {o c rank : ℕ} {t : TypeTree} → Mentions p file t rank → Mentions p file (Slice o c t) rank

-- the definition of this rank contains the type expression t
pub record IsWrittenIn (p : Package) (rank file : ℕ) (t : TypeTree) : Type 0 where
  pub definition : PlacedType
  pub has_rank : slice_get (package_types p) rank ≡ Some definition
  pub in_file : definition.file ≡ file
  pub written : Contains (written_types definition.spec.body) t

-- The definition of this rank is broken: one of its type expressions names no type or mentions a broken definition. In this example all
-- three are broken:
--
--   type A nosuch
--   type B struct { a *A }
--   type C []B
pub data IsBroken (p : Package) : ℕ → Type 0 where
  by_itself : {rank file : ℕ} {t : TypeTree} → IsWrittenIn p rank file t → ((u : PlainType) → DenotesType p file t u → ⊥) → IsBroken p rank
  through : {rank file other : ℕ} {t : TypeTree} → IsWrittenIn p rank file t → Mentions p file t other → IsBroken p other → IsBroken p rank

-- t is the type of the type expression, which mentions no broken definition
pub record IsTypeOf (p : Package) (file : ℕ) (tree : TypeTree) (t : PlainType) : Type 0 where
  pub names : DenotesType p file tree t
  pub whole : (rank : ℕ) → Mentions p file tree rank → IsBroken p rank → ⊥
