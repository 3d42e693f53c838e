-- The names that a move of a package keeps: those of all identifiers but imports, their uses, and names in package clauses.
use Rattle.std.specs.Prelude.{ℕ, ◌≡◌, List}
use Rattle.base_files.specs.Workspace.{Workspace}
use Rattle.base_files.specs.declared.place.Place.{Place}
use Rattle.base_edits.specs.EditSet.{FileChanges}
use Rattle.base_edits.specs.Revisions.{Revision}
use Rattle.base_edits.specs.RevisionsOfEdits.{revision_of}
use Rattle.go_scope.specs.declared.model.Purpose.TheVariants as purpose
use Rattle.go_scope.specs.declared.model.Role.TheVariants.{NotLexical}
use Rattle.go_scope.specs.Bindings.{IsBoundTo, IsImport}
use Rattle.types_declared.specs.Package.{Package}
use Rattle.workspace_check.specs.Verdicts.{Verdicts}
use Rattle.refs_binding.specs.Identifiers.{BeginsAt}
use Rattle.refs_binding.specs.Uses.{IsCheckedPackage}
use Rattle.refactor_conflict.specs.Staying.{StaysByMember, StaysByName}
use Rattle.law_moves.specs.Moves.{IsMove}

-- The identifier `u` is bound to an import.
pub record IsBoundToImport (p : Package) (u : ℕ) : Type 0 where
  pub import : ℕ
  pub is_import : IsImport p.layout import
  pub bound : IsBoundTo p.layout p.names u import

-- Each identifier keeps its name, unless it is bound to an import or is the name in a package clause.
abbrev pub KeepsOtherNames : Workspace → Verdicts → Revision → Type 0
KeepsOtherNames w known r = (p : Package) → IsCheckedPackage w known p → (u : ℕ) (place : Place) → BeginsAt p place.path place.offset u →
    (IsBoundToImport p u → ⊥) → (p.layout.role u ≡ NotLexical purpose.PackageClause → ⊥) → (name : List ℕ) → r.called place name ≡ name

-- A move leaves all these names.
abbrev pub MovesKeepNames : Type 0
MovesKeepNames = (w : Workspace) (known : Verdicts) (from to : List ℕ) (s : FileChanges) → IsMove w known from to s →
    KeepsOtherNames w known (revision_of w s)

-- So uses of members stay bound, and so do the names by which members are declared.
abbrev pub MovesKeepMembers : Type 0
MovesKeepMembers = (w : Workspace) (known : Verdicts) (from to : List ℕ) (s : FileChanges) → IsMove w known from to s → (p : Package) →
    IsCheckedPackage w known p → (u : ℕ) (place : Place) → BeginsAt p place.path place.offset u →
    StaysByMember w known (revision_of w s) p u place × StaysByName w known (revision_of w s) p u place
