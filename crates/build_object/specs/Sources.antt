-- The sources of the code of a package's files, and the object of a package.
use Rattle.std.specs.Prelude.{ℕ, suc, ◌≡◌, ◌==◌, ◌↔◌, true, if◌then◌else◌, List, [], ◌∷◌, map, Option, Some, None, length, slice_get, codes, Contains}
use Rattle.std.specs.List.Sorted.{IsStrictlySortedBy}
use Rattle.base_files.specs.Workspace.{path_cmp}
use Rattle.go_ast.specs.SourceFile.{SourceFile, spelling_of}
use Rattle.go_scope.specs.declared.model.Role.TheVariants.{NotLexical}
use Rattle.go_scope.specs.declared.model.Purpose.TheVariants as purpose
use Rattle.go_scope.specs.Bindings.{IsPackageLevel}
use Rattle.go_scope.specs.Table.{IsFoundAt}
use Rattle.types_declared.specs.Files.{HasLiteral, package_name}
use Rattle.types_expr.specs.declared.symbol.Symbol.{Symbol}
use Rattle.types_expr.specs.Types.{PlainType}
use Rattle.types_expr.specs.Judge.{MemberUse, Entering, members_of, enterings_of}
use Rattle.types_stmt.specs.Declarations.{check_file}
use Rattle.workspace_graph.specs.Packages.{ImportsPath}
use Rattle.types_declared.specs.Package.{Package, spelled}
use Rattle.types_declared.specs.Written.{BindsToken, IsPredeclared}
use Rattle.types_declared.specs.Written.{DeclaresImport}
use Rattle.types_info.specs.Worlds.{IsWorldOf, is_init}
use Rattle.build_object.specs.Lines.{GlobalName, FunctionName}
use Rattle.build_object.specs.Source.{Source}
use Rattle.build_object.specs.Literals.{literal_number}
use Rattle.build_object.specs.Names.{type_name, function_name, function_names, position_of_field, name_of_asked, asked_in_file, MethodAsked}
use Rattle.build_object.specs.Objects.{Object, object_of}
use Rattle.build_object.specs.ObjectText.{object_text}

-- The type before the first use of a member at the token.
abbrev pub type_before : List MemberUse → ℕ → Option PlainType
type_before [] token = None
type_before (u ∷ us) token = if u.place == token then Some u.before else type_before us token

-- The type of the first value that enters an interface at the token.
abbrev pub type_entered : List Entering → ℕ → Option PlainType
type_entered [] token = None
type_entered (e ∷ es) token = if e.place == token then Some e.own else type_entered es token

-- The name of the first method that is asked for at the token.
abbrev pub asked_there : List MethodAsked → ℕ → Option FunctionName
asked_there [] token = None
asked_there (a ∷ rest) token = if a.place == token then Some a.name else asked_there rest token

-- The name at a token is the selector of a qualified identifier, behind the name of an import of this path.
pub record HasQualifier (p : Package) (file token : ℕ) (path : List ℕ) : Type 0 where
  pub before : ℕ
  pub behind_dot : token ≡ suc (suc before)
  pub identifier : ℕ
  pub found : IsFoundAt p.layout p.size (record { file = file; index = token }) identifier
  pub selected : p.layout.role identifier ≡ NotLexical purpose.Selected
  pub import : ℕ
  pub binds : BindsToken p file before import
  pub of_path : DeclaresImport p import path

-- The name at a token is bound to this package-level declaration: one of its own package, or one of an imported package, as the selector of
-- a qualified identifier.
pub data IsGlobalAt (p : Package) (file token : ℕ) : GlobalName → Type 0 where
  own : {d : ℕ} → BindsToken p file token d → IsPackageLevel p.layout d → IsGlobalAt p file token (record { path = p.path; name = spelled p file token })
  imported : {path : List ℕ} → HasQualifier p file token path → IsGlobalAt p file token (record { path = path; name = spelled p file token })

-- `None`: the name at the token is bound to no package-level declaration. `Some`: it is bound to this one.
abbrev pub DenotesGlobal : Package → (file token : ℕ) → Option GlobalName → Type 0
DenotesGlobal p file token None = (g : GlobalName) → IsGlobalAt p file token g → ⊥
DenotesGlobal p file token (Some g) = IsGlobalAt p file token g

-- The name at the token is bound to the predeclared `true`.
pub record IsTrueAt (p : Package) (file token : ℕ) : Type 0 where
  pub declaration : ℕ
  pub binds : BindsToken p file token declaration
  pub predeclared : IsPredeclared p declaration (codes "true")

-- The value of the string literal at the token, and `None` for any other token.
abbrev pub IsTextAt : SourceFile → ℕ → Option (List ℕ) → Type 0
IsTextAt source token None = (value : List ℕ) → HasLiteral source token value → ⊥
IsTextAt source token (Some value) = HasLiteral source token value

-- `s` is the source of the code of a file of the package. There is at most one. `files_of` gives the files of packages by their paths.
pub record IsSourceOf (p : Package) (files_of : List ℕ → List SourceFile) (file : ℕ) (f : SourceFile) (s : Source) : Type 0 where
  pub world : IsWorldOf p file f s.world
  pub before : (token : ℕ) → s.before token ≡ type_before (members_of (check_file s.world (is_init f) f.tree).uses) token
  pub entered : (token : ℕ) → s.entered token ≡ type_entered (enterings_of (check_file s.world (is_init f) f.tree).uses) token
  pub global : (token : ℕ) → DenotesGlobal p file token (s.global token)
  pub asks : (token : ℕ) → s.asks token ≡ asked_there (asked_in_file p.path p.files file) token
  pub truth : (token : ℕ) → (s.truth token ≡ true) ↔ IsTrueAt p file token
  pub number : (token : ℕ) → s.number token ≡ literal_number (spelling_of f token)
  pub text : (token : ℕ) → IsTextAt f token (s.text token)
  pub function : (symbol : Symbol) → s.function symbol ≡ function_name files_of symbol
  pub position : (symbol : Symbol) → s.position symbol ≡ position_of_field files_of symbol
  pub asked : (symbol : Symbol) → s.asked symbol ≡ name_of_asked files_of symbol

-- The paths that the files import, each once, sorted by bytes.
pub record AreImports (files : List SourceFile) (imports : List (List ℕ)) : Type 0 where
  pub each : (path : List ℕ) → Contains imports path ↔ ((f : SourceFile) × (Contains files f × ImportsPath f path))
  pub sorted : IsStrictlySortedBy path_cmp imports

-- `o` is the object of the package p without faults. There is at most one.
pub record IsObjectOf (p : Package) (files_of : List ℕ → List SourceFile) (o : Object) : Type 0 where
  pub sources : List Source
  pub all : length sources ≡ length p.files
  pub made_of : (file : ℕ) (f : SourceFile) (s : Source) → slice_get p.files file ≡ Some f → slice_get sources file ≡ Some s → IsSourceOf p files_of file f s
  pub imports : List (List ℕ)
  pub are_imports : AreImports p.files imports
  pub is_object : o ≡ object_of sources p.path (package_name p.files) imports (function_names p.path p.files) (map (λ f. f.tree) p.files)

-- `text` is the text of the object of the package p.
pub record IsObjectText (p : Package) (files_of : List ℕ → List SourceFile) (text : List ℕ) : Type 0 where
  pub object : Object
  pub of_package : IsObjectOf p files_of object
  pub printed : text ≡ object_text (type_name files_of) object
