-- What a state keeps at rest.
use Rattle.std.specs.Prelude.{◌≡◌, length}
use Rattle.base_files.specs.Workspace.{Workspace}
use Rattle.base_files.specs.Packages.{package_paths}
use Rattle.workspace_check.specs.Found.{KnowsVerdicts}
use Rattle.history_machine.specs.State.{State}
use Rattle.history_machine.specs.declared.resting.Resting.{Resting}
use Rattle.history_machine.specs.declared.seen_state.SeenState.{SeenState}

-- the state with these files and what is kept at rest
abbrev pub woken : Workspace → Resting → State
woken w rest = record { number = rest.number; files = w; finished = rest.finished }

-- the state at rest as a view shows it
abbrev pub seen_resting : Resting → SeenState
seen_resting rest = record { number = rest.number; packages = rest.packages; finished = rest.finished }

-- what is kept at rest is of these files: the paths are those of the packages, the table has a place for each, and the known verdicts are
-- right
pub record RestsOn (w : Workspace) (rest : Resting) : Type 0 where
  pub packages : rest.packages ≡ package_paths w
  pub sized : length rest.finished ≡ length (package_paths w)
  pub known : KnowsVerdicts w rest.known

-- this is kept of the state at rest
pub record IsRestOf (state : State) (rest : Resting) : Type 0 where
  pub state_is : woken state.files rest ≡ state
  pub rests : RestsOn state.files rest
