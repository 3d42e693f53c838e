-- Each package of the workspace is there after a move, by its scopes: at its moved path, with the same layout and trees.
use Rattle.std.specs.Prelude.{ℕ, ◌≡◌, ◌<◌, List, [], Some, map, slice_get, unwrap_or, Contains}
use Rattle.base_files.specs.Workspace.{Workspace}
use Rattle.base_files.specs.declared.place.Place.{Place}
use Rattle.base_edits.specs.EditSet.{FileChanges}
use Rattle.base_edits.specs.Revisions.{Revision, PackageMovesTo}
use Rattle.base_edits.specs.RevisionsOfEdits.{revision_of}
use Rattle.go_scanner.specs.CutText.{tokens_in}
use Rattle.go_ast.specs.SourceFile.{SourceFile}
use Rattle.go_scope.specs.declared.model.Position.{Position}
use Rattle.go_scope.specs.declared.model.Purpose.TheVariants.{PackageClause}
use Rattle.go_scope.specs.declared.model.Role.TheVariants.{NotLexical}
use Rattle.go_scope.specs.Bindings.{IsBoundTo}
use Rattle.go_scope.specs.Table.{LiesAt}
use Rattle.law_changed_types.specs.SameBindings.{trees_of, paths_of}
use Rattle.types_declared.specs.Laid.{literal_of}
use Rattle.types_declared.specs.Package.{Package, spelled}
use Rattle.types_declared.specs.Written.{DeclaresImport}
use Rattle.workspace_check.specs.Verdicts.{Verdicts}
use Rattle.workspace_graph.specs.FileImports.{import_literals}
use Rattle.refs_binding.specs.Identifiers.{BeginsAt, IsNameToken}
use Rattle.refs_binding.specs.Uses.{IsCheckedPackage}
use Rattle.refactor_conflict.specs.ScopedPackages.{IsScopedIn}
use Rattle.refactor_move.specs.declared.moved.Moved.{Moved}
use Rattle.law_renamed_workspaces.specs.Layouts.{IsToken}
use Rattle.law_renamed_workspaces.specs.ScopedPackages.{HasMovedTokens}
use Rattle.law_moves.specs.Moves.{IsMove, moved_path}
use Rattle.law_moves.specs.OneNewName.{AreRenamedTo}

-- The new name of the package that moves; empty where it keeps its name.
abbrev pub followed_name : Moved → List ℕ
followed_name m = unwrap_or m.name []

-- `d` is an import without a name of the package that moves, and the name of this follows its path. So `d` declares the new name after the
-- move.
pub record IsFollowingImport (m : Moved) (p : Package) (d : ℕ) : Type 0 where
  pub follows : m.name ≡ Some (followed_name m)
  pub imports : DeclaresImport p d m.from
  pub unnamed : literal_of p.layout d ≡ d

-- `q` is p after the move: at its moved path, with the same layout and trees. Its files are at their new paths, in their order. Each name is
-- spelled as the change has it. No other token has another spelling, string literals of imports excepted.
pub record IsMovedWith (m : Moved) (r : Revision) (p q : Package) : Type 0 where
  pub path : q.path ≡ moved_path m.from m.to p.path
  pub size : q.size ≡ p.size
  pub layout : q.layout ≡ p.layout
  pub trees : trees_of q.files ≡ trees_of p.files
  pub paths : paths_of q.files ≡ map (λ path. (r.moved (record { path = path; offset = 0 })).path) (paths_of p.files)
  pub names : AreRenamedTo p.layout p.names (IsFollowingImport m p) (followed_name m) q.names
  pub called : (u : ℕ) (place : Place) → BeginsAt p place.path place.offset u → q.names u ≡ r.called place (p.names u)
  pub tokens : (at : Position) (place : Place) → IsToken p at place → spelled q at.file at.index ≡ r.called place (spelled p at.file at.index)
  pub other_tokens : (at : Position) (f : SourceFile) → slice_get p.files at.file ≡ Some f → (IsNameToken (slice_get (tokens_in f.cut) at.index) → ⊥) →
      (Contains (import_literals f.tree) at.index → ⊥) → spelled q at.file at.index ≡ spelled p at.file at.index

-- The imports of `q` are those of p, of the moved paths.
pub record HasMovedImports (m : Moved) (p q : Package) : Type 0 where
  pub moved : (u : ℕ) (path : List ℕ) → DeclaresImport p u path → DeclaresImport q u (moved_path m.from m.to path)
  pub back : (u : ℕ) (path : List ℕ) → DeclaresImport q u path → (old : List ℕ) × (DeclaresImport p u old × (path ≡ moved_path m.from m.to old))

-- The package `q` of the workspace after the change, by its scopes, is p after the move, and its tokens are moved.
pub record IsThereMoved (w : Workspace) (m : Moved) (r : Revision) (p q : Package) : Type 0 where
  pub is_scoped : IsScopedIn r.after q
  pub moved : IsMovedWith m r p q
  pub imports : HasMovedImports m p q
  pub begins : HasMovedTokens r p q
  pub goes : PackageMovesTo w r p.path q.path

-- By scopes each package is there after the move. This asks for no verdict of the edited workspace.
abbrev pub ScopedPackagesMove : Type 0
ScopedPackagesMove = (w : Workspace) (known : Verdicts) (from to : List ℕ) (s : FileChanges) → (h : IsMove w known from to s) → (p : Package) →
    IsCheckedPackage w known p → (q : Package) × IsThereMoved w h.edits.moved (revision_of w s) p q

-- The identifier stands at the position. It is no name of a package clause, and bound to no import that gets the new name.
pub record IsApartFromMove (m : Moved) (p : Package) (at : Position) (u : ℕ) : Type 0 where
  pub within : u < p.size
  pub stands : LiesAt p.layout at u
  pub no_clause : p.layout.role u ≡ NotLexical PackageClause → ⊥
  pub unbound : (d : ℕ) → IsFollowingImport m p d → IsBoundTo p.layout p.names u d → ⊥

-- A move leaves the name of each such identifier.
abbrev pub NamesApartFromMoveStay : Type 0
NamesApartFromMoveStay = (w : Workspace) (known : Verdicts) (from to : List ℕ) (s : FileChanges) → (h : IsMove w known from to s) → (p : Package) →
    IsCheckedPackage w known p → (at : Position) (place : Place) (u : ℕ) → IsToken p at place → IsApartFromMove h.edits.moved p at u →
    (revision_of w s).called place (spelled p at.file at.index) ≡ spelled p at.file at.index
