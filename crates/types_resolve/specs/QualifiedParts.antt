-- The faults of qualified identifiers, part by part.
use Rattle.std.specs.Prelude.{ℕ, ◌≡◌, ◌+◌, Bool, List, Option, Some}
use Rattle.base_files.specs.declared.fault_kind.FaultKind.{FaultKind}
use Rattle.types_declared.specs.declared.fault.Fault.{Fault}
use Rattle.go_ast.specs.SourceFile.{SourceFile}
use Rattle.go_scope.specs.declared.model.Role.TheVariants.{NotLexical}
use Rattle.go_scope.specs.declared.model.Purpose.TheVariants as purpose
use Rattle.go_scope.specs.Bindings.{IsBoundTo, IsImport}
use Rattle.types_resolve.specs.Scoping.{IsQualified, qualified_fault}
use Rattle.types_declared.specs.Laid.{Laid, IsPathOf, is_exported}

-- f is the fault of this kind at the identifier u; no fault where kind is none
pub record IsFaultOfKind (p : Laid) (u : ℕ) (kind : Option FaultKind) (f : Fault) : Type 0 where
  pub file : f.file ≡ (p.layout.place u).file
  pub token : f.token ≡ (p.layout.place u).index
  pub is_kind : kind ≡ Some f.kind

-- f is the fault of the name u qualified by the import
pub record IsUnknownOf (files : List SourceFile) (exports : (path name : List ℕ) → Bool) (p : Laid) (import u : ℕ) (f : Fault) : Type 0 where
  pub path : List ℕ
  pub of_path : IsPathOf files p import path
  pub of_kind : IsFaultOfKind p u (qualified_fault (is_exported (p.names u)) (exports path (p.names u))) f

-- u is the name after the dot that follows the identifier b, as in `b.u`
pub record IsAfterDot (p : Laid) (b u : ℕ) : Type 0 where
  pub selected : p.layout.role u ≡ NotLexical purpose.Selected
  pub same_file : (p.layout.place u).file ≡ (p.layout.place b).file
  pub behind_dot : (p.layout.place u).index ≡ (p.layout.place b).index + 2

-- b is bound to the import d
abbrev pub IsOfImport : Laid → (b d : ℕ) → Type 0
IsOfImport p b d = IsBoundTo p.layout p.names b d × IsImport p.layout d

-- the import d qualifies u, as p does in `p.u`
abbrev pub IsQualifiedBy : Laid → (u d : ℕ) → Type 0
IsQualifiedBy p u d = (b : ℕ) × IsQualified p b u d
