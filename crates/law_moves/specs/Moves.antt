-- A move of a package of a workspace without faults, as it is planned, and where the paths of packages go.
use Rattle.std.specs.Prelude.{ℕ, ◌≡◌, ◌↔◌, ◌||◌, Bool, nat_eq, bytes_eq, List, [], ◌∷◌, ◌++◌, drop, length, cond, map, Contains, unwrap_or}
use Rattle.std.specs.List.{starts_with}
use Rattle.base_files.specs.Path.{IsPath}
use Rattle.base_files.specs.Packages.{package_files, package_paths}
use Rattle.base_files.specs.Workspace.{Workspace}
use Rattle.workspace_check.specs.Verdicts.{Verdicts, AreVerdicts}
use Rattle.workspace_check.specs.FaultLists.{ListsFaults}
use Rattle.base_edits.specs.Edits.{edited_text}
use Rattle.base_edits.specs.EditSet.{FileChanges, change_of, edited}
use Rattle.base_edits.specs.Fits.{Fits, path_after}
use Rattle.base_edits.specs.Moved.{edits_by}
use Rattle.refactor_move.specs.MoveEdits.{AreMoveEdits, HasOnlyMoved}

-- The workspace has no fault. The paths allow the move of the package `from` to the path `to`: whatever lies there moves. So `to` can be
-- `from`, and the edits change the name of the package alone. `called`: the path whose last element the name follows. `s` are the edits.
pub record IsMove (w : Workspace) (known : Verdicts) (from to : List ℕ) (s : FileChanges) : Type 0 where
  pub right : AreVerdicts w known
  pub sound : ListsFaults w []
  pub source : IsPath 1 from
  pub target : IsPath 1 to
  pub is_package : Contains (package_paths w) from
  pub only_moved : HasOnlyMoved w from to
  pub called : List ℕ
  pub edits : AreMoveEdits w known from to called s
  pub fit : Fits s w

-- Whether the path is that of the folder or lies in it.
abbrev pub is_moving : (folder path : List ℕ) → Bool
is_moving folder path = bytes_eq path folder || starts_with nat_eq path (folder ++ 47 ∷ [])

-- The path of a package after the move of the package `from` to the path `to`.
--
--   from = lib/shapes, to = geo: lib/shapes becomes geo, lib/shapes/round becomes geo/round, and lib/shape stays
unfoldable pub moved_path : (from to path : List ℕ) → List ℕ
moved_path from to path = cond (is_moving from path) (to ++ drop (length from) path) path

-- No two packages of the workspace get one path.
abbrev pub PackagesStayApart : Type 0
PackagesStayApart = (w : Workspace) (known : Verdicts) (from to : List ℕ) (s : FileChanges) → IsMove w known from to s → (p q : List ℕ) →
    Contains (package_paths w) p → Contains (package_paths w) q → moved_path from to p ≡ moved_path from to q → p ≡ q

-- The packages after the move are those of before at their moved paths.
abbrev pub PackagePathsMove : Type 0
PackagePathsMove = (w : Workspace) (known : Verdicts) (from to : List ℕ) (s : FileChanges) → IsMove w known from to s → (q : List ℕ) →
    Contains (package_paths (edited s w)) q ↔ ((p : List ℕ) × (Contains (package_paths w) p × (q ≡ moved_path from to p)))

-- A file, as path and text, at its new path with its edited text.
abbrev pub moved_entry : FileChanges → List ℕ × List ℕ → List ℕ × List ℕ
moved_entry s e = (unwrap_or (path_after s e.0) e.0, edited_text (edits_by (change_of s e.0)) e.1)

-- The files of each package keep their order. They are at their new paths, with edited texts.
abbrev pub PackageFilesMove : Type 0
PackageFilesMove = (w : Workspace) (known : Verdicts) (from to : List ℕ) (s : FileChanges) → IsMove w known from to s → (p : List ℕ) →
    Contains (package_paths w) p → package_files (edited s w) (moved_path from to p) ≡ map (moved_entry s) (package_files w p)
