-- The outcomes of deliveries.
use Rattle.std.specs.Prelude.{◌≡◌, ⊤, length}
use Rattle.base_files.specs.Packages.{package_paths}
use Rattle.workspace_check.specs.Found.{KnowsVerdicts}
use Rattle.build_unit.specs.declared.built.Built.{Built}
use Rattle.build_unit.specs.declared.job.JobRecord.{JobRecord}
use Rattle.build_carry.specs.Finished.{GainsUnit}
use Rattle.history_machine.specs.State.{State}
use Rattle.history_machine.specs.Deliveries.{IsFresh, IsRightlyBuilt, HasUnit}
use Rattle.base_files.specs.declared.refusal.Refusal.TheVariants.{Stale, Already}
use Rattle.history_machine.specs.Machine.{with_finished}
use Rattle.history_machine.specs.declared.event.Reply.{Reply}
use Rattle.history_machine.specs.declared.event.Reply.TheVariants.{Done, Refused}
use Rattle.history_book.specs.declared.deliveries.DeliveryOutcome.{DeliveryOutcome}
use Rattle.history_book.specs.declared.deliveries.DeliveryOutcome.TheVariants.{Late, Known, Entered}

-- The outcome of a delivery to the state. It is `Late` where the delivery is not of the state, `Known` where its package is finished. Else
-- it is `Entered`, with the table that gains the unit.
abbrev pub HasOutcome : State → JobRecord → Built → DeliveryOutcome → Type 0
HasOutcome state job built Late = ¬ (IsFresh state job built)
HasOutcome state job built Known = IsFresh state job built × HasUnit state job.package
HasOutcome state job built (Entered finished known) =
    IsFresh state job built × ¬ (HasUnit state job.package) × GainsUnit state.files state.finished job.package built.unit finished
    × (length finished ≡ length (package_paths state.files)) × IsRightlyBuilt built × KnowsVerdicts state.files known

-- the outcome of a delivery whose inputs are those of its package: its package was finished before, or the table gains its unit
abbrev pub FreshOutcome : State → Built → DeliveryOutcome → Type 0
FreshOutcome state built Late = ⊥
FreshOutcome state built Known = HasUnit state built.package
FreshOutcome state built (Entered finished known) =
    ¬ (HasUnit state built.package) × GainsUnit state.files state.finished built.package built.unit finished
    × (length finished ≡ length (package_paths state.files)) × IsRightlyBuilt built × KnowsVerdicts state.files known

-- the table of an entered delivery has a place for each package of the state, and its findings are right
abbrev pub FitsState : State → DeliveryOutcome → Type 0
FitsState state (Entered finished known) = (length finished ≡ length (package_paths state.files)) × KnowsVerdicts state.files known
FitsState state outcome = ⊤

-- the reply to a delivery of this outcome, and the state after it
abbrev pub TakesInOutcome : State → DeliveryOutcome → Reply → State → Type 0
TakesInOutcome old Late reply new = (reply ≡ Refused (Stale old.number)) × (new ≡ old)
TakesInOutcome old Known reply new = (reply ≡ Refused Already) × (new ≡ old)
TakesInOutcome old (Entered finished known) reply new = (reply ≡ Done old.number) × (new ≡ with_finished old finished)
