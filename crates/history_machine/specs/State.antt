-- A state of the history.
use Rattle.std.specs.Prelude.{ℕ}
use Rattle.base_files.specs.Workspace.{Workspace}
use Rattle.build_carry.specs.Finished.{Table}

-- a state: its number, its files, and the units of its finished packages
pub record State : Type 0 where
  pub number : ℕ
  pub files : Workspace
  -- for each package, by its number, its unit if the package is finished
  pub finished : Table
