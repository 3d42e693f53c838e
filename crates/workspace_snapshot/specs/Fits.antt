-- Which workspaces keep the limits.
use Rattle.std.specs.Prelude.{ℕ, ◌≤◌, nat_le, Bool, List, length, sum_by, IsTrue}
use Rattle.std.specs.List.{list_all}
use Rattle.std.specs.FinMap as files
use Rattle.base_files.specs.Packages.{package_paths}
use Rattle.base_files.specs.Workspace.{Workspace}
use Rattle.base_files.specs.declared.limits.Limits.{Limits}

-- The number of bytes of all files together.
abbrev pub total_bytes : Workspace → ℕ
total_bytes w = sum_by (λ e. length e.1) (files.entries w)

-- Whether each file has at most `most` bytes.
abbrev pub are_files_within : ℕ → Workspace → Bool
are_files_within most w = list_all (λ e. nat_le (length e.1) most) (files.entries w)

-- The workspace keeps the limits on the bytes of each file, on the number of files, and on the bytes of all files.
pub record FilesFit (limits : Limits) (w : Workspace) : Type 0 where
  pub each : IsTrue (are_files_within limits.file_bytes w)
  pub count : files.len w ≤ limits.files
  pub total : total_bytes w ≤ limits.total_bytes

-- The workspace keeps the limits on its files, and on the number of packages.
pub record FitsLimits (limits : Limits) (w : Workspace) : Type 0 where
  pub files : FilesFit limits w
  pub packages : length (package_paths w) ≤ limits.packages

-- Each of the files has at most `each` bytes, and all together have at most `all` bytes.
abbrev pub SizesFit : ℕ → ℕ → List (List ℕ × List ℕ) → Type 0
SizesFit each all files = IsTrue (list_all (λ e. nat_le (length e.1) each) files) × (sum_by (λ e. length e.1) files ≤ all)
