-- Graphs whose files are joined.
use Rattle.std.specs.Prelude.{ℕ, List, Contains}
use Rattle.base_files.specs.Packages.{package_paths}
use Rattle.base_files.specs.Workspace.{Workspace}

-- No package of the one has the path of a package of the other.
abbrev pub ShareNoPackage : Workspace → Workspace → Type 0
ShareNoPackage v w = (p : List ℕ) → Contains (package_paths v) p → Contains (package_paths w) p → ⊥
