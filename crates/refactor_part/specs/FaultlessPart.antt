-- The part of a workspace whose packages are those without faults.
use Rattle.std.specs.Prelude.{ℕ, ◌&&◌, not, Bool, List}
use Rattle.std.specs.FinMap as files
use Rattle.base_files.specs.Path.{folder}
use Rattle.base_files.specs.Packages.{is_go}
use Rattle.base_files.specs.Workspace.{Workspace}
use Rattle.workspace_check.specs.Verdicts.{Verdicts}
use Rattle.workspace_snapshot.specs.declared.snapshot.Snapshot.{Snapshot}

-- Whether the path is that of a Go file of a package with faults.
abbrev pub is_of_faulty : Verdicts → List ℕ → Bool
is_of_faulty known path = is_go path && (known (folder path)).faulty

-- The workspace without the Go files of packages that have faults. Every other file stays.
unfoldable pub faultless_part : Workspace → Verdicts → Workspace
faultless_part w known = files.retain_keys w (λ path. not (is_of_faulty known path))

-- The snapshot of the part.
abbrev pub part_of_snapshot : Snapshot → Verdicts → Snapshot
part_of_snapshot snapshot known = record { number = snapshot.number; limits = snapshot.limits; files = faultless_part snapshot.files known }
