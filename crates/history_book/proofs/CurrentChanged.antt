-- The states where the current one changes and keeps its files.
use Rattle.std.proofs.Common.{◌≡◌, length, sym, ap, subst}
use Rattle.base_files.specs.Workspace.{Workspace}
use Rattle.base_files.specs.declared.limits.Limits.{Limits}
use Rattle.build_unit.specs.Jobs.{JobsOut}
use Rattle.history_inverses.specs.Inverses.{StandsAt}
use Rattle.history_machine.specs.declared.event.Reply.{Reply}
use Rattle.history_machine.specs.State.{State}
use Rattle.history_book.specs.declared.deliveries.DeliveryOutcome.{DeliveryOutcome}
use Rattle.history_book.specs.declared.deliveries.DeliveryOutcome.TheVariants.{Late, Known, Entered}
use Rattle.history_book.specs.declared.states.States.{States}
use Rattle.history_book.specs.Histories.{AreAtRest, KeepStates, content_of, resting_states}
use Rattle.history_book.specs.Outcomes.{TakesInOutcome}
use Rattle.history_book.proofs.AtRest.{states_many}

module _ (s : States) (current : State) (files : current.files ≡ s.current.files) where
  pub keeps_current : KeepStates s → KeepStates (record s { current = current })
  keeps_current keeps = record {
    stands = subst (StandsAt s.ways) (sym files) keeps.stands;
    earlier = subst (λ (w : Workspace). AreAtRest w s.ways.behind s.earlier.items) (sym files) keeps.earlier;
    later = subst (λ (w : Workspace). AreAtRest w s.ways.ahead s.later.items) (sym files) keeps.later;
    count = keeps.count;
  }

  pub content_current : (limits : Limits) (out : JobsOut) → content_of (record s { current = current }) limits out ≡
      record (content_of s limits out) { current = current }
  content_current limits out = λ i. record {
    limits = limits;
    earlier = resting_states (files i) s.ways.behind s.earlier.items;
    current = current;
    later = resting_states (files i) s.ways.ahead s.later.items;
    next = s.next;
    visit = s.visit;
    begun = s.begun;
    out = out;
  }

-- a delivery keeps the files
pub files_kept : (old new : State) (outcome : DeliveryOutcome) (reply : Reply) → TakesInOutcome old outcome reply new → new.files ≡ old.files
files_kept old new Late reply takes = ap (λ (s : State). s.files) takes.1
files_kept old new Known reply takes = ap (λ (s : State). s.files) takes.1
files_kept old new (Entered finished known) reply takes = ap (λ (s : State). s.files) takes.1

-- how many states undo and redo reach
pub earlier_count : (s : States) → KeepStates s → length s.earlier.items ≡ length (resting_states s.current.files s.ways.behind s.earlier.items)
earlier_count s keeps = sym (states_many s.current.files s.ways.behind s.earlier.items keeps.earlier)

pub later_count : (s : States) → KeepStates s → length s.later.items ≡ length (resting_states s.current.files s.ways.ahead s.later.items)
later_count s keeps = sym (states_many s.current.files s.ways.ahead s.later.items keeps.later)
