-- A package, and what it is where its tokens and identifiers get other numbers, as where a name is inserted in a file.
use Rattle.std.specs.Prelude.{ℕ, suc, ◌≡◌, ◌<◌, ◌+◌, ◌⊎◌, ◌↔◌, true, List, [], ◌∷◌, map, Some, slice_get, Contains}
use Rattle.go_ast.specs.Tree.{TypeTree}
use Rattle.go_ast.specs.SourceFile.{SourceFile, spelling_of}
use Rattle.go_scope.specs.Bindings.{IsBoundTo, is_implied}
use Rattle.go_scope.specs.Moves.{moved_place, moved_role}
use Rattle.go_scope.specs.Table.{LiesAt}
use Rattle.law_rename.specs.Renumbered.{decl_by, type_by}
use Rattle.law_changed_types.specs.SameBindings.{IsParsedPackage, IsSelectedAt, IsDotted}
use Rattle.law_changed_types.specs.Renumbering.{IsRenumbering, IsRenumberedCheck, renumbered_bound}
use Rattle.types_expr.specs.Judge.{MemberUse, OfMember}
use Rattle.types_expr.specs.Types.{PlainType, Underlying}
use Rattle.types_expr.specs.World.{World, Bound, Definition}
use Rattle.types_stmt.specs.Declarations.{check_file}
use Rattle.types_declared.specs.Package.{Package, PlacedFunction, package_functions, spelled}
use Rattle.types_declared.specs.Written.{DeclaresImport, DenotesType, IsBroken}
use Rattle.types_declared.specs.MeaningOf.{IsMeaningOf}
use Rattle.types_declared.specs.Definitions.{HasUnderlying, PlacedField, package_fields, IsDefinition}
use Rattle.types_info.specs.Worlds.{IsName, IsWorldOf, is_init}

-- New numbers: of tokens, by the rank of their file, and of identifiers.
pub record NewNumbers : Type 0 where
  pub token : ℕ → ℕ → ℕ
  pub identifier : ℕ → ℕ

-- The files declare the same, with the new numbers of tokens. The ranks of the files begin at n.
abbrev pub AreRenumberedFiles : (ℕ → ℕ → ℕ) → ℕ → List SourceFile → List SourceFile → Type 0
AreRenumberedFiles t n [] [] = Unit {0}
AreRenumberedFiles t n [] (g ∷ gs) = ⊥
AreRenumberedFiles t n (f ∷ fs) [] = ⊥
AreRenumberedFiles t n (f ∷ fs) (g ∷ gs) = (g.tree.decls ≡ map (decl_by (t n)) f.tree.decls) × AreRenumberedFiles t (n + 1) fs gs

-- The name at the token is behind a dot, and stays behind it.
pub record IsBehindDot (t : ℕ → ℕ) (token : ℕ) : Type 0 where
  pub before : ℕ
  pub is_behind : token ≡ suc (suc before)
  pub stays_behind : t token ≡ suc (suc (t before))

-- The identifier e of q has the number that one of p gets, or it is at no token that one of p gets.
abbrev pub IsOldOrNew : NewNumbers → Package → Package → ℕ → Type 0
IsOldOrNew n p q e = ((d : ℕ) × ((e ≡ n.identifier d) × (d < p.size))) ⊎
    ((file token : ℕ) → LiesAt q.layout (record { file = file; index = n.token file token }) e → ⊥)

-- q is the package p with the new numbers. All that p declares is there, at its new tokens, and its identifiers are bound as they were. There
-- may be more identifiers, which are no declarations. Names behind dots and names of fields and functions are spelled as they were.
pub record IsRenumberedPackage (n : NewNumbers) (p q : Package) : Type 0 where
  pub path : q.path ≡ p.path
  pub parsed : IsParsedPackage p
  pub parsed_too : IsParsedPackage q
  pub apart : (file : ℕ) → IsRenumbering (n.token file)
  pub files : AreRenumberedFiles n.token 0 p.files q.files
  -- identifiers
  pub rising : (d e : ℕ) → d < e → n.identifier d < n.identifier e
  pub within : (d : ℕ) → d < p.size → n.identifier d < q.size
  pub old_or_new : (e : ℕ) → e < q.size → IsOldOrNew n p q e
  pub places : (d : ℕ) → q.layout.place (n.identifier d) ≡ moved_place n.token (p.layout.place d)
  pub ends : ℕ → ℕ → ℕ
  pub roles : (d : ℕ) → q.layout.role (n.identifier d) ≡ moved_role ends (p.layout.role d)
  pub predeclared : (d : ℕ) → is_implied (p.layout.role d) ≡ true → q.names (n.identifier d) ≡ p.names d
  -- bindings
  pub bound : (u d : ℕ) → IsBoundTo p.layout p.names u d ↔ IsBoundTo q.layout q.names (n.identifier u) (n.identifier d)
  pub bound_to_old : (u e : ℕ) → IsBoundTo q.layout q.names (n.identifier u) e → (d : ℕ) × (e ≡ n.identifier d)
  pub imports : (d : ℕ) (path : List ℕ) → DeclaresImport p d path ↔ DeclaresImport q (n.identifier d) path
  -- names
  pub dots : (file token : ℕ) → IsSelectedAt p file token → IsBehindDot (n.token file) token
  pub selectors : (file token : ℕ) → IsSelectedAt p file token → spelled q file (n.token file token) ≡ spelled p file token
  pub fields : (rank : ℕ) (f : PlacedField) → slice_get (package_fields p) rank ≡ Some f →
      spelled q f.file (n.token f.file f.name) ≡ spelled p f.file f.name
  pub functions : (rank : ℕ) (f : PlacedFunction) → slice_get (package_functions p) rank ≡ Some f →
      spelled q f.file (n.token f.file f.function.name) ≡ spelled p f.file f.function.name
  -- other packages
  pub exports : (path : List ℕ) → q.export_data_of path ≡ p.export_data_of path

-- A type expression with the new numbers names the same types.
abbrev pub TypesRenumber : Type 0
TypesRenumber = (n : NewNumbers) (p q : Package) → IsRenumberedPackage n p q → (file : ℕ) (tree : TypeTree) (t : PlainType) → IsDotted p file tree →
    DenotesType p file tree t ↔ DenotesType q file (type_by (n.token file) tree) t

-- The same definitions are broken.
abbrev pub BrokenRenumber : Type 0
BrokenRenumber = (n : NewNumbers) (p q : Package) → IsRenumberedPackage n p q → (rank : ℕ) → IsBroken p rank ↔ IsBroken q rank

-- Types have the same underlying types.
abbrev pub UnderlyingRenumber : Type 0
UnderlyingRenumber = (n : NewNumbers) (p q : Package) → IsRenumberedPackage n p q → (t : PlainType) (u : Underlying) →
    HasUnderlying p t u ↔ HasUnderlying q t u

-- A declaration has the same meaning, a local that at its new token.
abbrev pub MeaningsRenumber : Type 0
MeaningsRenumber = (n : NewNumbers) (p q : Package) → IsRenumberedPackage n p q → (d : ℕ) (b : Bound) → IsMeaningOf p d b →
    IsMeaningOf q (n.identifier d) (renumbered_bound (n.token (p.layout.place d).file) b)

-- Definitions are the same.
abbrev pub DefinitionsRenumber : Type 0
DefinitionsRenumber = (n : NewNumbers) (p q : Package) → IsRenumberedPackage n p q → (rank : ℕ) (d : Definition) →
    IsDefinition p rank d ↔ IsDefinition q rank d

-- The name at a token has the same meaning at its new token.
abbrev pub NamesRenumber : Type 0
NamesRenumber = (n : NewNumbers) (p q : Package) → IsRenumberedPackage n p q → (file token : ℕ) (b : Bound) → IsName p file token b →
    IsName q file (n.token file token) (renumbered_bound (n.token file) b)

-- What judging finds of a file with the new numbers is what it found before, at the new tokens. Names at uses of members have to be spelled
-- as before, and the declarations of the file have to be renumbered.
abbrev pub FoundRenumbers : Type 0
FoundRenumbers = (n : NewNumbers) (p q : Package) → IsRenumberedPackage n p q → (file : ℕ) (f g : SourceFile) →
    slice_get p.files file ≡ Some f → slice_get q.files file ≡ Some g → (v w : World) → IsWorldOf p file f v → IsWorldOf q file g w →
    ((u : MemberUse) → Contains (check_file v (is_init f) f.tree).uses (OfMember u) → spelling_of g (n.token file u.place) ≡ spelling_of f u.place) →
    IsRenumberedCheck (n.token file) (check_file v (is_init f) f.tree) (check_file w (is_init g) g.tree)
