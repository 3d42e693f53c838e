-- Adding a file to the files of a folder that were read so far.
use Rattle.std.specs.Prelude.{◌≡◌, ◌==◌, ◌&&◌, ℕ, Bool, List, Option, Some, None, Result, Ok, Err, length, not}
use Rattle.std.specs.FinMap as files
use Rattle.std.specs.Cmp.Lexicographic.{pointwise}
use Rattle.std.specs.List.{list_any}
use Rattle.std.specs.Ordering.{eq_by_cmp}
use Rattle.base_files.specs.Packages.{is_go, package_paths}
use Rattle.base_files.specs.Path.{folder}
use Rattle.base_files.specs.Workspace.{Workspace, path_cmp}
use Rattle.base_files.specs.declared.limits.Limits.{Limits}
use Rattle.base_files.specs.declared.refusal.Refusal.{Refusal}
use Rattle.workspace_snapshot.specs.declared.change.Change.{Change}
use Rattle.workspace_snapshot.specs.declared.snapshot.Snapshot.{Snapshot}
use Rattle.workspace_snapshot.specs.Plan.{PlansPut}

-- What a put is held to: as many files, packages and bytes as a server holds.
pub record AreServerLimits (limits : Limits) : Type 0 where
  pub each : limits.file_bytes ≡ 1048576
  pub all : limits.total_bytes ≡ 67108864
  pub files : limits.files ≡ 4096
  pub packages : limits.packages ≡ 1024

-- Whether a folder has one of the files.
abbrev pub is_folder_of : (files : List (List ℕ)) → List ℕ → Bool
is_folder_of files q = list_any (λ path. pointwise ◌==◌ (folder path) q) files

-- Whether a Go file is in none of the folders of the files.
abbrev pub is_first_in : (files : List (List ℕ)) → List ℕ → Bool
is_first_in files path = is_go path && not (is_folder_of files (folder path))

-- The folders of some files are the packages of the workspace.
abbrev pub AreInPackages : (files : List (List ℕ)) → Workspace → Type 0
AreInPackages files w = (q : List ℕ) → is_folder_of files q ≡ list_any (eq_by_cmp path_cmp q) (package_paths w)

-- The number of bytes of a text; 0 where there is none.
abbrev pub bytes_of_text : Option (List ℕ) → ℕ
bytes_of_text None = 0
bytes_of_text (Some text) = length text

-- The number of bytes of the file at a path; 0 where there is none.
abbrev pub bytes_at : Workspace → List ℕ → ℕ
bytes_at w path = bytes_of_text (files.get w path)

-- The files of a folder as a session holds them: with these limits, before its first change.
abbrev pub folder_snapshot : Limits → Workspace → Snapshot
folder_snapshot limits files = record { number = 0; limits = limits; files = files }

-- Adding the file at `path` with this text leads from one snapshot to another. It is refused exactly as a put is, and then changes nothing.
-- Else the files are those that the put makes, and all else stays.
abbrev pub PutsFile : (old : Snapshot) → (path text : List ℕ) → (new : Snapshot) → Result (Unit {0}) Refusal → Type 0
PutsFile old path text new (Ok done) = (change : Change) × PlansPut old path text (Ok change) × (new ≡ record old { files = change.files })
PutsFile old path text new (Err refusal) = PlansPut old path text (Err refusal) × (new ≡ old)
