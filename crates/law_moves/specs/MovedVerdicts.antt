-- Verdicts on the packages of a workspace after the move of a package that loses and captures no identifier: no package has a fault, and
-- export data are the old ones with moved symbols.
use Rattle.std.specs.Prelude.{ℕ, ◌≡◌, ◌≢◌, ◌<◌, true, false, List, [], Contains}
use Rattle.base_edits.specs.EditSet.{FileChanges, edited}
use Rattle.base_edits.specs.RevisionsOfEdits.{revision_of}
use Rattle.base_files.specs.declared.place.Place.{Place}
use Rattle.base_files.specs.Packages.{package_paths}
use Rattle.base_files.specs.Path.{IsPath}
use Rattle.base_files.specs.Workspace.{Workspace}
use Rattle.go_scope.specs.declared.model.Position.{Position}
use Rattle.go_scope.specs.declared.model.Purpose.TheVariants.{PackageClause}
use Rattle.go_scope.specs.declared.model.Role.TheVariants.{NotLexical}
use Rattle.go_scope.specs.Bindings.{IsBoundTo, IsImport, IsPackageLevel, is_implied}
use Rattle.go_scope.specs.Table.{LiesAt}
use Rattle.types_declared.specs.Package.{Package, spelled}
use Rattle.types_declared.specs.Written.{DeclaresImport}
use Rattle.workspace_check.specs.FaultLists.{ListsFaults}
use Rattle.workspace_check.specs.Verdicts.{Verdicts, AreVerdicts}
use Rattle.refs_binding.specs.Uses.{IsCheckedPackage}
use Rattle.refactor_conflict.specs.ScopedPackages.{IsScopedIn}
use Rattle.refactor_conflict.specs.Staying.{NoneIsLost}
use Rattle.refactor_move.specs.declared.moved.Moved.{Moved}
use Rattle.refactor_move.specs.MoveEdits.{IsFree}
use Rattle.refactor_move.specs.Paths.{IsUnder}
use Rattle.law_rename.specs.Renaming.{HasSameBindings}
use Rattle.law_renamed_workspaces.specs.Layouts.{IsToken}
use Rattle.law_renamed_workspaces.specs.ScopedPackages.{HasSameScopes}
use Rattle.law_changed_types.specs.Moved.{PathMap}
use Rattle.law_changed_types.specs.MovedPackage.{IsMovedPackage}
use Rattle.law_moves.specs.Moves.{IsMove, moved_path}
use Rattle.refactor_known.specs.MovedData.{moved_data}
use Rattle.refactor_known.specs.Swaps.{swapped}

-- The verdicts on the packages after the move, at their new paths: none has a fault, and export data are moved. The map is its own inverse.
abbrev pub moved_verdicts : Moved → PathMap → Verdicts → Verdicts
moved_verdicts m g before path = record { faulty = false; export_data = moved_data m.from m.name g (g path) (before (g path)).export_data }

-- The move sends packages where the map sends them that swaps the two folders, and this map is its own inverse.
pub record MovesBySwap (w : Workspace) (from to : List ℕ) : Type 0 where
  pub inverse : (path : List ℕ) → swapped from to (swapped from to path) ≡ path
  pub goes : (path : List ℕ) → Contains (package_paths w) path → swapped from to path ≡ moved_path from to path

-- It does so if `to` is another folder outside of `from` in which no file lies.
abbrev pub FreeTargetsSwap : Type 0
FreeTargetsSwap = (w : Workspace) (from to : List ℕ) → IsPath 1 to → Contains (package_paths w) from → to ≢ from → (IsUnder from to → ⊥) →
    IsFree w to → MovesBySwap w from to

-- And if the package keeps its path, and gets another name.
abbrev pub SameTargetsSwap : Type 0
SameTargetsSwap = (w : Workspace) (from : List ℕ) → MovesBySwap w from from

-- The identifier stands at the position. It is no name of a package clause, and bound to no import.
pub record StandsApart (p : Package) (at : Position) (u : ℕ) : Type 0 where
  pub within : u < p.size
  pub stands : LiesAt p.layout at u
  pub no_clause : p.layout.role u ≡ NotLexical PackageClause → ⊥
  pub unbound : (d : ℕ) → IsImport p.layout d → IsBoundTo p.layout p.names u d → ⊥

-- By scopes the package `q` is p after the move: it is at the moved path, and each identifier is bound as it was. Predeclared names, names of
-- package-level declarations and all that is apart from imports and clauses are spelled as they were. It imports the moved paths.
pub record IsBoundAfterMove (w : Workspace) (from to : List ℕ) (s : FileChanges) (p q : Package) : Type 0 where
  pub is_scoped : IsScopedIn (edited s w) q
  pub path : q.path ≡ moved_path from to p.path
  pub size : q.size ≡ p.size
  pub layout : q.layout ≡ p.layout
  pub bindings : HasSameBindings p.layout p.names q.names
  pub predeclared : (d : ℕ) → is_implied (p.layout.role d) ≡ true → q.names d ≡ p.names d
  pub levels : (d : ℕ) → IsPackageLevel p.layout d → q.names d ≡ p.names d
  pub spelled : (at : Position) (place : Place) (u : ℕ) → IsToken p at place → StandsApart p at u → spelled q at.file at.index ≡ spelled p at.file at.index
  pub imports : (d : ℕ) (path : List ℕ) → DeclaresImport p d path → DeclaresImport q d (moved_path from to path)
  pub imports_back : (d : ℕ) (path : List ℕ) → DeclaresImport q d path → (old : List ℕ) × (DeclaresImport p d old × (path ≡ moved_path from to old))

-- Where the move loses and captures no identifier, each package is there so. This asks for no verdict of the edited workspace.
abbrev pub PackagesStayBound : Type 0
PackagesStayBound = (w : Workspace) (known : Verdicts) (from to : List ℕ) (s : FileChanges) → IsMove w known from to s →
    NoneIsLost w known (revision_of w s) → (p : Package) → IsCheckedPackage w known p → (q : Package) × IsBoundAfterMove w from to s p q

-- The edited workspace has right verdicts: those of before, moved.
abbrev pub MovesHaveVerdicts : Type 0
MovesHaveVerdicts = (w : Workspace) (known : Verdicts) (from to : List ℕ) (s : FileChanges) → (h : IsMove w known from to s) →
    MovesBySwap w from to → NoneIsLost w known (revision_of w s) → AreVerdicts (edited s w) (moved_verdicts h.edits.moved (swapped from to) known)

-- So it has no fault.
abbrev pub MovesStaySound : Type 0
MovesStaySound = (w : Workspace) (known : Verdicts) (from to : List ℕ) (s : FileChanges) → IsMove w known from to s →
    MovesBySwap w from to → NoneIsLost w known (revision_of w s) → ListsFaults (edited s w) []

-- The package `q` of the edited workspace, as it is checked, is p after the move. Its scopes are those of `there`.
pub record IsCheckedThere (w : Workspace) (known after : Verdicts) (from to : List ℕ) (s : FileChanges) (p q : Package) : Type 0 where
  pub is : IsCheckedPackage (edited s w) after q
  pub moved : IsMovedPackage (swapped from to) p q
  pub there : Package
  pub bound : IsBoundAfterMove w from to s p there
  pub scopes : HasSameScopes there q

-- Each package is there after the move, as it is checked.
abbrev pub PackagesAreCheckedThere : Type 0
PackagesAreCheckedThere = (w : Workspace) (known : Verdicts) (from to : List ℕ) (s : FileChanges) → (h : IsMove w known from to s) →
    MovesBySwap w from to → NoneIsLost w known (revision_of w s) → (p : Package) → IsCheckedPackage w known p →
    (q : Package) × IsCheckedThere w known (moved_verdicts h.edits.moved (swapped from to) known) from to s p q
