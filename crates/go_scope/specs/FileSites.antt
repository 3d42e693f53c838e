-- The identifiers of declarations, files and packages, in the order of their tokens.
use Rattle.std.specs.Prelude.{ℕ, suc, List, [], ◌∷◌, ◌++◌, Option, Some, None, map, codes, bytes_eq, if◌then◌else◌}
use Rattle.std.specs.List.{flat_map}
use Rattle.go_scope.specs.declared.model.Block.{Block}
use Rattle.go_scope.specs.declared.model.Block.TheVariants.{Universe, Package, File, Inner}
use Rattle.go_scope.specs.declared.model.Role.{Role}
use Rattle.go_scope.specs.declared.model.Role.TheVariants.{Use, Declaring, Implied, NotLexical}
use Rattle.go_scope.specs.declared.model.Purpose.{Purpose}
use Rattle.go_scope.specs.declared.model.Purpose.TheVariants as purpose
use Rattle.go_scope.specs.Site.{Site, TokenSpellings, site}
use Rattle.go_scope.specs.ExpressionSites.{sites_if, list_sites, type_sites}
use Rattle.go_scope.specs.StatementSites.{ident_sites, group_sites, open_of, close_of, block_sites}
use Rattle.go_ast.specs.Tree.{Group, GlobalTree, FieldTree, MethodTree, BodyTree, Other, Struct, Interface, TypeSpecTree, ReceiverTree, ParamTree}
use Rattle.go_ast.specs.Tree.{ResultTree, no_result, one_result, results, FuncTree, ImportTree, ImportsTree, DeclTree, VarDecl, TypeDecl, FuncDecl, FileTree}

-- the identifier of a name that the package block declares
abbrev pub global_name : TokenSpellings → ℕ → List Site
global_name s n = site s n (Declaring Package 0) ∷ []

-- the identifier of the name of a field, or of a method that an interface asks for, in its declaration
abbrev pub member_name : TokenSpellings → ℕ → List Site
member_name s n = site s n (NotLexical purpose.Member) ∷ []

-- the identifiers of a group whose specs declare no local variables
abbrev pub spec_sites : {X : Type 0} → (X → List Site) → Group X → List Site
spec_sites f g = group_sites (λ following. f) 0 g

unfoldable pub global_sites : TokenSpellings → GlobalTree → List Site
global_sites s g = list_sites (global_name s) g.names ++ type_sites s g.type_use

unfoldable pub field_sites : TokenSpellings → FieldTree → List Site
field_sites s f = list_sites (member_name s) f.names ++ type_sites s f.type_use

-- the identifiers of parameters of one type, declared in the block b with scopes from the token `start`
unfoldable pub param_sites : TokenSpellings → Block → ℕ → ParamTree → List Site
param_sites s b start p = list_sites (ident_sites s (Declaring b start)) p.names ++ type_sites s p.type_use

unfoldable pub result_sites : TokenSpellings → ResultTree → List Site
result_sites s no_result = []
result_sites s (one_result t) = type_sites s t
result_sites s (results o ts c) = list_sites (type_sites s) ts

-- the block of the parameters of a method that an interface asks for: between its parentheses
abbrev pub method_block : TokenSpellings → MethodTree → Block
method_block s m = Inner s.rank m.lparen m.rparen

-- The identifiers of a method that an interface asks for. The scopes of its parameters begin where their block ends. So they are empty, and
-- only its own identifier is bound to a parameter:
--
--   type I interface { M(int int) int }   // int is the predeclared type, each time but the first
unfoldable pub method_sites : TokenSpellings → MethodTree → List Site
method_sites s m = member_name s m.name ++ (list_sites (param_sites s (method_block s m) m.rparen) m.params ++ result_sites s m.result)

unfoldable pub body_sites : TokenSpellings → BodyTree → List Site
body_sites s (Other t) = type_sites s t
body_sites s (Struct p o fs c) = list_sites (field_sites s) fs
body_sites s (Interface p o ms c) = list_sites (method_sites s) ms

unfoldable pub type_spec_sites : TokenSpellings → TypeSpecTree → List Site
type_spec_sites s t = global_name s t.name ++ body_sites s t.body

-- the identifiers of a receiver, declared in the block b of the body with a scope from the token `start`
unfoldable pub receiver_sites : TokenSpellings → Block → ℕ → ReceiverTree → List Site
receiver_sites s b start r = ident_sites s (Declaring b start) r.name ++ (site s r.type_name Use ∷ [])

-- the block of a function's body
abbrev pub func_block : TokenSpellings → FuncTree → Block
func_block s f = Inner s.rank (open_of f.body) (close_of f.body)

-- the role of a function's name: a method is a member, a function `init` is declared in no block, any other in the package block
abbrev pub func_role : Option ReceiverTree → List ℕ → Role
func_role None name = if bytes_eq name (codes "init") then NotLexical purpose.InitFunction else Declaring Package 0
func_role (Some r) name = NotLexical purpose.Member

unfoldable pub func_sites : TokenSpellings → FuncTree → List Site
func_sites s f =
    sites_if (receiver_sites s (func_block s f) (open_of f.body)) f.receiver ++ (site s f.name (func_role f.receiver (s.spell f.name)) ∷
    (list_sites (param_sites s (func_block s f) (open_of f.body)) f.params ++ (result_sites s f.result ++ block_sites s f.body)))

-- the identifier of an import's name, declared in the block of its file; none where the import has no name
abbrev pub import_name : TokenSpellings → Option ℕ → List Site
import_name s None = []
import_name s (Some n) = site s n (Declaring (File s.rank) 0) ∷ []

-- the purpose of an import's string literal, by whether the import has a name
abbrev pub import_purpose : Option ℕ → Purpose
import_purpose None = purpose.UnnamedImport
import_purpose (Some n) = purpose.ImportPath

unfoldable pub import_sites : TokenSpellings → ImportTree → List Site
import_sites s i = import_name s i.name ++ (site s i.path (NotLexical (import_purpose i.name)) ∷ [])

unfoldable pub imports_sites : TokenSpellings → ImportsTree → List Site
imports_sites s i = spec_sites (import_sites s) i.imports

unfoldable pub decl_sites : TokenSpellings → DeclTree → List Site
decl_sites s (VarDecl k g semicolon) = spec_sites (global_sites s) g
decl_sites s (TypeDecl k g semicolon) = spec_sites (type_spec_sites s) g
decl_sites s (FuncDecl k f semicolon) = func_sites s f

-- the identifiers of a file
unfoldable pub file_sites : TokenSpellings → FileTree → List Site
file_sites s f = site s f.name (NotLexical purpose.PackageClause) ∷ (flat_map (imports_sites s) f.imports ++ flat_map (decl_sites s) f.decls)

-- the predeclared names of the Go subset
abbrev pub universe : List (List ℕ)
universe = codes "bool" ∷ codes "int" ∷ codes "string" ∷ codes "true" ∷ codes "false" ∷ codes "nil" ∷ codes "append" ∷
    codes "len" ∷ codes "panic" ∷ codes "print" ∷ codes "println" ∷ []

-- a predeclared name as an identifier
abbrev pub universe_site : List ℕ → Site
universe_site name = record { place = record { file = 0; index = 0 }; name = name; role = Implied Universe 0 }

-- a file's tree with the bytes of its tokens
pub record SpelledFile : Type 0 where
  pub tree : FileTree
  pub spell : ℕ → List ℕ

-- the identifiers of files whose ranks begin with `rank`
unfoldable pub files_sites : ℕ → List SpelledFile → List Site
files_sites rank [] = []
files_sites rank (f ∷ fs) = file_sites (record { rank = rank; spell = f.spell }) f.tree ++ files_sites (suc rank) fs

-- the identifiers of a package whose files are in the order of their paths: the predeclared names first
unfoldable pub package_sites : List SpelledFile → List Site
package_sites fs = map universe_site universe ++ files_sites 0 fs
