-- A delivery that the current state takes in is an answer of the machine.
use Rattle.std.proofs.Common.{refl, sym, ap, subst}
use Rattle.build_unit.specs.Jobs.{JobsOut, RemovesJob, label_of}
use Rattle.build_unit.specs.declared.built.Built.{Built}
use Rattle.build_unit.specs.declared.job.JobRecord.{JobRecord}
use Rattle.history_machine.specs.State.{State}
use Rattle.history_machine.specs.Machine.{Content}
use Rattle.history_book.specs.Outcomes.{HasOutcome, TakesInOutcome}
use Rattle.history_machine.specs.Step.{AnswersOrLacks}
use Rattle.history_book.specs.declared.deliveries.DeliveryOutcome.{DeliveryOutcome}
use Rattle.history_book.specs.declared.deliveries.DeliveryOutcome.TheVariants.{Late, Known, Entered}
use Rattle.history_machine.specs.declared.event.Event.TheVariants.{Deliver}
use Rattle.history_machine.specs.declared.event.Reply.{Reply}

module _ (m : Content) (job : JobRecord) (built : Built) (out : JobsOut) (lost : RemovesJob m.out (label_of job) out) where
  abbrev after : State → Content
  after new = record m { current = new; out = out }

  pub settled : (outcome : DeliveryOutcome) (reply : Reply) (new : State) → HasOutcome m.current job built outcome →
      TakesInOutcome m.current outcome reply new →
      AnswersOrLacks m (Deliver job built) reply (after new)
  settled Late reply new comes s =
      subst (λ (r : Reply). AnswersOrLacks m (Deliver job built) r (after new)) (sym s.0) (comes, refl, (out, lost, ap (λ (x : State). after x) s.1))
  settled Known reply new comes s =
      subst (λ (r : Reply). AnswersOrLacks m (Deliver job built) r (after new)) (sym s.0) (comes.0, comes.1, (out, lost, ap (λ (x : State). after x) s.1))
  settled (Entered finished known) reply new comes s =
      subst (λ (r : Reply). AnswersOrLacks m (Deliver job built) r (after new)) (sym s.0)
      (comes.0, comes.1, refl, (out, finished, lost, comes.2, ap (λ (x : State). after x) s.1), comes.4)
