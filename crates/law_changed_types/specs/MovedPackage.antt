-- A package and what it is after a move: the same trees under another path, where import paths and export data are moved too.
use Rattle.std.specs.Prelude.{ℕ, ◌≡◌, ◌↔◌, true, List, Some, option_map, slice_get, Contains}
use Rattle.go_ast.specs.Tree.{TypeTree}
use Rattle.go_scope.specs.Bindings.{is_implied}
use Rattle.go_ast.specs.SourceFile.{SourceFile, spelling_of}
use Rattle.law_rename.specs.Renaming.{HasSameBindings}
use Rattle.types_info.specs.Worlds.{IsName, IsWorldOf}
use Rattle.types_expr.specs.Judge.{MemberUse, Noted, OfMember}
use Rattle.law_changed_types.specs.Moves.{IsMovedWorld}
use Rattle.types_expr.specs.Types.{PlainType}
use Rattle.types_expr.specs.World.{World, Field, Method, Definition}
use Rattle.types_declared.specs.Package.{Package, PlacedFunction, Export, package_functions, spelled}
use Rattle.types_declared.specs.Written.{DeclaresImport, IsBroken, IsTypeOf}
use Rattle.types_declared.specs.MeaningOf.{IsMeaningOf}
use Rattle.types_declared.specs.Definitions.{HasUnderlying, PlacedField, package_fields, IsDefinition}
use Rattle.law_changed_types.specs.SameBindings.{IsParsedPackage, IsSelectedAt, IsDotted, trees_of}
use Rattle.law_changed_types.specs.Moved.{PathMap, IsInjective, moved_symbol, moved_type, moved_underlying, moved_signature, moved_meaning, moved_bound}
use Rattle.law_changed_types.specs.Moved.{moved_form}

-- What holds of something in the old package holds of it in the new one once it is moved, and of nothing else.
pub record HoldsAfterMove {A : Type 0} (moved : A → A) (before after : A → Type 0) : Type 0 where
  pub forth : (x : A) → before x → after (moved x)
  pub back : (y : A) → after y → (x : A) × ((y ≡ moved x) × before x)

-- export data

abbrev pub moved_export : PathMap → Export → Export
moved_export g e = record { meaning = moved_meaning g e.meaning }

abbrev pub moved_field : PathMap → Field → Field
moved_field g f = record { symbol = moved_symbol g f.symbol; exported = f.exported; form = moved_form g f.form }

abbrev pub moved_method : PathMap → Method → Method
moved_method g m = record {
  symbol = moved_symbol g m.symbol;
  exported = m.exported;
  on_pointer = m.on_pointer;
  signature = option_map (moved_signature g) m.signature;
}

-- names of fields and methods stay
abbrev pub moved_definition : PathMap → Definition → Definition
moved_definition g d = record {
  underlying = moved_underlying g d.underlying;
  field = λ name. option_map (moved_field g) (d.field name);
  method = λ name. option_map (moved_method g) (d.method name);
}

-- q is the package p after the move. It has the layout and the trees of p, its identifiers are bound as they were, and its imports and their
-- export data are moved. Names behind dots and names of fields and functions are spelled as they were; literals of imports may differ.
pub record IsMovedPackage (g : PathMap) (p q : Package) : Type 0 where
  pub path : q.path ≡ g p.path
  pub size : q.size ≡ p.size
  pub layout : q.layout ≡ p.layout
  pub trees : trees_of q.files ≡ trees_of p.files
  pub bindings : HasSameBindings p.layout p.names q.names
  pub predeclared : (d : ℕ) → is_implied (p.layout.role d) ≡ true → q.names d ≡ p.names d
  pub parsed : IsParsedPackage p
  pub imports : (d : ℕ) → HoldsAfterMove g (DeclaresImport p d) (DeclaresImport q d)
  pub selectors : (file token : ℕ) → IsSelectedAt p file token → spelled q file token ≡ spelled p file token
  pub fields : (rank : ℕ) (f : PlacedField) → slice_get (package_fields p) rank ≡ Some f → spelled q f.file f.name ≡ spelled p f.file f.name
  pub functions : (rank : ℕ) (f : PlacedFunction) → slice_get (package_functions p) rank ≡ Some f →
      spelled q f.file f.function.name ≡ spelled p f.file f.function.name
  pub exports : (path name : List ℕ) →
      (q.export_data_of (g path)).exported name ≡ option_map (moved_export g) ((p.export_data_of path).exported name)
  pub definitions : (path : List ℕ) (rank : ℕ) →
      (q.export_data_of (g path)).definition rank ≡ moved_definition g ((p.export_data_of path).definition rank)

-- The type expressions of declarations have the moved types.
abbrev pub TypesMove : Type 0
TypesMove = (g : PathMap) → IsInjective g → (p q : Package) → IsMovedPackage g p q → (file : ℕ) (tree : TypeTree) → IsDotted p file tree →
    HoldsAfterMove (moved_type g) (IsTypeOf p file tree) (IsTypeOf q file tree)

-- The same definitions are broken.
abbrev pub BrokenMove : Type 0
BrokenMove = (g : PathMap) → IsInjective g → (p q : Package) → IsMovedPackage g p q → (rank : ℕ) → IsBroken p rank ↔ IsBroken q rank

-- A moved type has the moved underlying type.
abbrev pub UnderlyingMove : Type 0
UnderlyingMove = (g : PathMap) → IsInjective g → (p q : Package) → IsMovedPackage g p q → (t : PlainType) →
    HoldsAfterMove (moved_underlying g) (HasUnderlying p t) (HasUnderlying q (moved_type g t))

-- A declaration has the moved meaning.
abbrev pub MeaningsMove : Type 0
MeaningsMove = (g : PathMap) → IsInjective g → (p q : Package) → IsMovedPackage g p q → (d : ℕ) →
    HoldsAfterMove (moved_bound g) (IsMeaningOf p d) (IsMeaningOf q d)

-- The definition of a rank in p, moved, is that of the rank in q.
abbrev pub DefinitionsMove : Type 0
DefinitionsMove = (g : PathMap) → IsInjective g → (p q : Package) → IsMovedPackage g p q → (rank : ℕ) (d : Definition) → IsDefinition p rank d →
    IsDefinition q rank (moved_definition g d)

-- The name at a token, a qualified one too, has the moved meaning.
abbrev pub NamesMove : Type 0
NamesMove = (g : PathMap) → IsInjective g → (p q : Package) → IsMovedPackage g p q → (file token : ℕ) →
    HoldsAfterMove (moved_bound g) (IsName p file token) (IsName q file token)

-- The world of a file after the move is the moved world, at uses whose names are spelled as before. So whatever judging finds in it is what
-- it found before, moved.
abbrev pub WorldsMove : Type 0
WorldsMove = (g : PathMap) → IsInjective g → (p q : Package) → IsMovedPackage g p q → (file : ℕ) (f h : SourceFile) (v w : World) →
    IsWorldOf p file f v → IsWorldOf q file h w → (uses : List Noted) →
    ((u : MemberUse) → Contains uses (OfMember u) → spelling_of h u.place ≡ spelling_of f u.place) → IsMovedWorld g uses v w
