-- Finished units are current: each is the unit of its package in the whole workspace of its state.
use Rattle.std.specs.Prelude.{ℕ, List}
use Rattle.std.specs.List.{All}
use Rattle.base_files.specs.Workspace.{Workspace}
use Rattle.base_files.specs.declared.limits.Limits.{Limits}
use Rattle.build_unit.specs.Units.{IsUnitOf}
use Rattle.build_unit.specs.declared.unit.Unit.{Unit as PackageUnit}
use Rattle.build_carry.specs.Finished.{Table, IsFinished}
use Rattle.history_machine.specs.declared.event.Event.{Event}
use Rattle.history_machine.specs.declared.event.Reply.{Reply}
use Rattle.history_machine.specs.State.{State}
use Rattle.history_machine.specs.Machine.{Machine, opening}
use Rattle.history_machine.specs.Run.{Run}
use Rattle.history_machine.specs.Step.{Step}

-- each finished unit of the table is the unit of its package in the workspace
abbrev pub AreUnits : Workspace → Table → Type 0
AreUnits w table = (p : List ℕ) (unit : PackageUnit) → IsFinished w table p unit → IsUnitOf w p unit

-- each finished unit of the state is the unit of its package in the state's workspace
abbrev pub HasCurrentUnits : State → Type 0
HasCurrentUnits state = AreUnits state.files state.finished

-- in each state of the machine, each finished unit is the unit of its package in that state's workspace
pub record UnitsAreCurrent (m : Machine) : Type 0 where
  pub earlier : All HasCurrentUnits m.earlier
  pub current : HasCurrentUnits m.current
  pub later : All HasCurrentUnits m.later

-- Each step keeps all finished units current.
abbrev pub StepsKeepUnits : Type 0
StepsKeepUnits = (old new : Machine) (event : Event) (reply : Reply)
    → Step old event reply new
    → UnitsAreCurrent old → UnitsAreCurrent new

-- After every run from the opening state each finished unit is the unit of its package in its state's whole workspace. It doesn't matter
-- what is delivered, nor in which order.
abbrev pub FinishedAreCurrent : Type 0
FinishedAreCurrent = (limits : Limits) (events : List (Event × Reply)) (m : Machine)
    → Run (opening limits) events m
    → UnitsAreCurrent m
