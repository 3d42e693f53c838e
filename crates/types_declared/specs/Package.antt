-- A package to check: its files, their identifiers and bindings, the export data of the packages that it imports, and its declarations by
-- path and offset.
use Rattle.std.specs.Prelude.{ℕ, ◌≡◌, ◌<◌, List, [], ◌∷◌, map, Option, Some, None, slice_get}
use Rattle.std.specs.List.{flat_map}
use Rattle.go_ast.specs.Tree.{TypeTree, GlobalTree, TypeSpecTree, FuncTree, DeclTree, VarDecl, TypeDecl, FuncDecl}
use Rattle.go_ast.specs.SourceFile.{SourceFile, spelling_of}
use Rattle.go_scope.specs.declared.model.Position.{Position}
use Rattle.go_scope.specs.Bindings.{Layout, Names}
use Rattle.go_scope.specs.Table.{LiesAt}
use Rattle.types_declared.specs.Files.{RankedSource, ranked_files, group_items}
use Rattle.types_declared.specs.Laid.{Laid}
use Rattle.types_expr.specs.declared.symbol.Symbol.{Symbol}
use Rattle.types_expr.specs.Types.{Meaning}
use Rattle.types_expr.specs.World.{Definition}

-- an export of a package: its meaning in other packages
pub record Export : Type 0 where
  pub meaning : Meaning

-- The export data of a package: its name, its exported package-level names, and its type definitions by rank. Each definition has its
-- underlying type, its fields and its methods.
pub record ExportData : Type 0 where
  pub name : List ℕ
  pub exported : List ℕ → Option Export
  pub definition : ℕ → Definition

-- A package to check. In its layout and names each import without a name declares the name of the imported package. Its size is the number
-- of its identifiers, and export_data_of gives the export data of the package at a path.
pub record Package : Type 0 where
  pub path : List ℕ
  pub files : List SourceFile
  pub layout : Layout
  pub names : Names
  pub size : ℕ
  pub export_data_of : List ℕ → ExportData

-- the laid out identifiers of a package
abbrev pub laid_of : Package → Laid
laid_of p = record { layout = p.layout; names = p.names; size = p.size }

-- Declarations of a package, in the order of path and offset, each with the rank of its file

-- a package-level variable: the rank of its file, the token of its name, its type expression
pub record PlacedVariable : Type 0 where
  pub file : ℕ
  pub name : ℕ
  pub type_use : TypeTree

-- a type definition, with the rank of its file
pub record PlacedType : Type 0 where
  pub file : ℕ
  pub spec : TypeSpecTree

-- a function or method, with the rank of its file
pub record PlacedFunction : Type 0 where
  pub file : ℕ
  pub function : FuncTree

-- the variables of one variable specification
abbrev pub variables_of : ℕ → GlobalTree → List PlacedVariable
variables_of file g = map (λ i. record { file = file; name = i.value; type_use = g.type_use }) g.names

-- the variables of a top-level declaration
abbrev pub decl_variables : ℕ → DeclTree → List PlacedVariable
decl_variables file (VarDecl p g s) = flat_map (variables_of file) (group_items g)
decl_variables file (TypeDecl p g s) = []
decl_variables file (FuncDecl p f s) = []

-- a type definition with the rank of its file
abbrev pub placed_type : ℕ → TypeSpecTree → PlacedType
placed_type file t = record { file = file; spec = t }

-- the type definitions of a top-level declaration
abbrev pub decl_types : ℕ → DeclTree → List PlacedType
decl_types file (VarDecl p g s) = []
decl_types file (TypeDecl p g s) = map (placed_type file) (group_items g)
decl_types file (FuncDecl p f s) = []

-- the functions of a top-level declaration
abbrev pub decl_functions : ℕ → DeclTree → List PlacedFunction
decl_functions file (VarDecl p g s) = []
decl_functions file (TypeDecl p g s) = []
decl_functions file (FuncDecl p f s) = record { file = file; function = f } ∷ []

-- the variables of a file
abbrev pub variables_in : RankedSource → List PlacedVariable
variables_in r = flat_map (decl_variables r.0) r.1.tree.decls

-- the type definitions of a file
abbrev pub types_in : RankedSource → List PlacedType
types_in r = flat_map (decl_types r.0) r.1.tree.decls

-- the functions of a file
abbrev pub functions_in : RankedSource → List PlacedFunction
functions_in r = flat_map (decl_functions r.0) r.1.tree.decls

-- the package-level variables of files; the rank of one is its index in this list
abbrev pub declared_variables : List SourceFile → List PlacedVariable
declared_variables files = flat_map variables_in (ranked_files files)

-- the type definitions of files; the rank of one is its index in this list
abbrev pub declared_types : List SourceFile → List PlacedType
declared_types files = flat_map types_in (ranked_files files)

-- the functions, methods and functions `init` of files; the rank of one is its index in this list
abbrev pub declared_functions : List SourceFile → List PlacedFunction
declared_functions files = flat_map functions_in (ranked_files files)

-- the package-level variables of a package, by rank
abbrev pub package_variables : Package → List PlacedVariable
package_variables p = declared_variables p.files

-- the type definitions of a package, by rank
abbrev pub package_types : Package → List PlacedType
package_types p = declared_types p.files

-- the functions of a package, by rank
abbrev pub package_functions : Package → List PlacedFunction
package_functions p = declared_functions p.files

-- Positions of the names of declarations

-- the position of a variable's name
abbrev pub variable_place : PlacedVariable → Position
variable_place v = record { file = v.file; index = v.name }

-- the position of a type definition's name
abbrev pub type_place : PlacedType → Position
type_place t = record { file = t.file; index = t.spec.name }

-- the position of a function's name
abbrev pub function_place : PlacedFunction → Position
function_place f = record { file = f.file; index = f.function.name }

-- d declares the item of this rank in xs: it stands at the item's position, and at that of no item of a lower rank
pub record IsRanked {X : Type 0} (place_of : X → Position) (xs : List X) (l : Layout) (d rank : ℕ) : Type 0 where
  pub item : X
  pub has_rank : slice_get xs rank ≡ Some item
  pub stands : LiesAt l (place_of item) d
  pub first : (r : ℕ) (x : X) → r < rank → slice_get xs r ≡ Some x → LiesAt l (place_of x) d → ⊥

-- the symbol of the type definition of this rank: the package's path and the rank
abbrev pub symbol_in : Package → ℕ → Symbol
symbol_in p rank = record { «package» = p.path; rank = rank }

-- the spelling of a token of a file; empty where there is no file
abbrev pub spelled_at : Option SourceFile → ℕ → List ℕ
spelled_at None token = []
spelled_at (Some s) token = spelling_of s token

-- the spelling of a token of a package's file
abbrev pub spelled : Package → (file token : ℕ) → List ℕ
spelled p file token = spelled_at (slice_get p.files file) token
