-- The outcome of a fresh delivery.
use Rattle.std.proofs.Common.{ℕ, List, Result, Ok, Err, IfOk, subst}
use Rattle.std.specs.declared.alloc.AllocError.{AllocError}
use Rattle.build_unit.specs.declared.built.Built.{Built}
use Rattle.build_unit.specs.declared.job.JobRecord.{JobRecord}
use Rattle.build_carry.specs.Finished.{GainsUnit}
use Rattle.history_machine.specs.State.{State}
use Rattle.history_machine.specs.Deliveries.{IsFresh, HasUnit}
use Rattle.history_book.specs.Outcomes.{HasOutcome, FreshOutcome, FitsState}
use Rattle.history_book.specs.declared.deliveries.DeliveryOutcome.{DeliveryOutcome}
use Rattle.history_book.specs.declared.deliveries.DeliveryOutcome.TheVariants.{Late, Known, Entered}

module _ (state : State) (job : JobRecord) (built : Built) where
  module _ (fresh : IsFresh state job built) where
    comes_to : (outcome : DeliveryOutcome) → FreshOutcome state built outcome → HasOutcome state job built outcome
    comes_to Late comes = absurd comes
    comes_to Known comes = (fresh, subst (HasUnit state) fresh.same_package comes)
    comes_to (Entered finished known) comes = (
      fresh,
      subst (λ (p : List ℕ). HasUnit state p → ⊥) fresh.same_package comes.0,
      subst (λ (p : List ℕ). GainsUnit state.files state.finished p built.unit finished) fresh.same_package comes.1,
      comes.2,
      comes.3,
      comes.4,
    )

    pub if_comes : (outcome : Result DeliveryOutcome AllocError) → IfOk outcome (FreshOutcome state built) → IfOk outcome (HasOutcome state job built)
    if_comes (Ok outcome) comes = comes_to outcome comes
    if_comes (Err lack) comes = tt

  -- what is entered is of the state's packages
  pub has_table : (outcome : DeliveryOutcome) → HasOutcome state job built outcome → FitsState state outcome
  has_table Late comes = tt
  has_table Known comes = tt
  has_table (Entered finished known) comes = (comes.3, comes.5)
