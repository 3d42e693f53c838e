-- The faults of scopes: undeclared names, redeclarations, unused imports and qualified identifiers. In the layout each import without a
-- name declares the imported package's name at its string literal.
use Rattle.std.specs.Prelude.{ℕ, suc, ◌≡◌, ◌+◌, ◌<◌, ◌⊎◌, Bool, true, false, List, Option, Some, None, ◌↔◌, get_or, length}
use Rattle.base_files.specs.declared.fault_kind.FaultKind.{FaultKind}
use Rattle.base_files.specs.declared.fault_kind.FaultKind.TheVariants as kind
use Rattle.types_declared.specs.declared.fault.Fault.{Fault}
use Rattle.go_ast.specs.SourceFile.{SourceFile}
use Rattle.go_scope.specs.declared.model.Role.TheVariants.{NotLexical}
use Rattle.go_scope.specs.declared.model.Purpose.TheVariants as purpose
use Rattle.types_declared.specs.Listing.{IsFaultBelow}
use Rattle.go_scope.specs.Bindings.{Layout, IsPackageLevel, IsImport, IsUse, IsBoundTo, Declares, Counts}
use Rattle.types_declared.specs.Laid.{Laid, init_name, literal_of, is_exported, IsPathOf}

-- a fault of this kind at the identifier u
abbrev pub fault_at : Layout → ℕ → FaultKind → Fault
fault_at l u k = record { file = (l.place u).file; token = (l.place u).index; kind = k }

-- the fault of a use that is bound to no declaration
pub record IsUndeclared (p : Laid) (u : ℕ) (f : Fault) : Type 0 where
  pub at : f ≡ fault_at p.layout u kind.Undeclared
  pub is_use : IsUse p.layout p.names u
  pub unbound : (d : ℕ) → IsBoundTo p.layout p.names u d → ⊥

-- u redeclares a name of its block, or is a package-level variable or type named `init`
abbrev pub IsRedeclaration : Laid → ℕ → Type 0
IsRedeclaration p u = (Declares p.layout p.names u × (Counts p.layout p.names u → ⊥)) ⊎ (IsPackageLevel p.layout u × (p.names u ≡ init_name))

-- the fault of a redeclaration, or of a package-level variable or type named `init`
pub record IsRepeated (p : Laid) (u : ℕ) (f : Fault) : Type 0 where
  pub at : f ≡ fault_at p.layout u kind.Repeated
  pub repeats : IsRedeclaration p u

-- a use among the identifiers below n is bound to d
pub record IsUsedBelow (p : Laid) (n d : ℕ) : Type 0 where
  pub user : ℕ
  pub below : user < n
  pub is_use : IsUse p.layout p.names user
  pub bound : IsBoundTo p.layout p.names user d

-- the fault, at its string literal, of an import to which no use is bound
pub record IsUnused (p : Laid) (d : ℕ) (f : Fault) : Type 0 where
  pub at : f ≡ fault_at p.layout (literal_of p.layout d) kind.Unused
  pub is_import : IsImport p.layout d
  pub unused : IsUsedBelow p p.size d → ⊥

-- used has for each identifier whether a use below n is bound to it
pub record AreUsed (p : Laid) (n : ℕ) (used : List Bool) : Type 0 where
  pub all : length used ≡ p.size
  pub each : (d : ℕ) → d < p.size → (get_or used d false ≡ true) ↔ IsUsedBelow p n d

-- Qualified identifiers `p.N`

-- `b.u` is a qualified identifier: u is the name after the dot, and b is bound to the import d
pub record IsQualified (p : Laid) (b u d : ℕ) : Type 0 where
  pub selected : p.layout.role u ≡ NotLexical purpose.Selected
  pub next : u ≡ suc b
  pub same_file : (p.layout.place u).file ≡ (p.layout.place b).file
  pub behind_dot : (p.layout.place u).index ≡ (p.layout.place b).index + 2
  pub bound : IsBoundTo p.layout p.names b d
  pub is_import : IsImport p.layout d

-- the kind of fault of a qualified identifier, by whether its name is exported and found in the package; none where it has none
abbrev pub qualified_fault : (exported found : Bool) → Option FaultKind
qualified_fault false found = Some kind.Unexported
qualified_fault true false = Some kind.Undeclared
qualified_fault true true = None

-- The fault of a qualified identifier whose name u isn't exported or isn't declared by the package. The argument exports says whether the
-- package at a path declares an exported name.
pub record IsQualifiedFault (files : List SourceFile) (exports : (path name : List ℕ) → Bool) (p : Laid) (u : ℕ) (f : Fault) : Type 0 where
  pub before : ℕ
  pub import : ℕ
  pub path : List ℕ
  pub qualified : IsQualified p before u import
  pub of_path : IsPathOf files p import path
  pub file : f.file ≡ (p.layout.place u).file
  pub token : f.token ≡ (p.layout.place u).index
  pub kind : qualified_fault (is_exported (p.names u)) (exports path (p.names u)) ≡ Some f.kind

-- f is a fault of the identifier u that its own package shows: undeclared, redeclared, or an unused import
abbrev pub IsFaultOfIdentifier : Laid → ℕ → Fault → Type 0
IsFaultOfIdentifier p u f = IsUndeclared p u f ⊎ (IsRepeated p u f ⊎ IsUnused p u f)

-- f is such a fault of some identifier of the package
abbrev pub IsScopeFault : Laid → Fault → Type 0
IsScopeFault p = IsFaultBelow (IsFaultOfIdentifier p) p.size

-- f is the fault of some qualified identifier of the package
abbrev pub IsUnknownFault : List SourceFile → ((path name : List ℕ) → Bool) → Laid → Fault → Type 0
IsUnknownFault files exports p = IsFaultBelow (IsQualifiedFault files exports p) p.size
