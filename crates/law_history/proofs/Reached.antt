-- What undo and redo reach, and what events that are turned away and deliveries leave as it was.
use Rattle.std.proofs.Common.{◌≡◌, List, [], ◌∷◌, ◌++◌, length, refl, sym, ap, subst, ◌∙◌, ⊎_elim, arith, length-append}
use Rattle.std.proofs.lemmas.List.{same_from_push}
use Rattle.base_files.specs.declared.refusal.Refusal.TheVariants.{Memory, Moved, NothingToUndo, NothingToRedo, JournalFull}
use Rattle.build_carry.specs.Finished.{GainsUnit}
use Rattle.history_machine.specs.declared.event.Event.{Event}
use Rattle.history_machine.specs.declared.event.Event.TheVariants.{Look, Log, Commit, Undo, Redo, Take, Deliver, GiveBack}
use Rattle.history_machine.specs.declared.event.Reply.{Reply}
use Rattle.history_machine.specs.declared.event.Reply.TheVariants.{Done, Refused, Back}
use Rattle.history_machine.specs.JournalSteps.{IsTurnedAway}
use Rattle.history_machine.specs.Machine.{Content, Machine}
use Rattle.history_machine.specs.State.{State}
use Rattle.history_machine.specs.Step.{Step, refused}
use Rattle.law_history.specs.Nearest.{DeliveriesKeepNeighbours, RedoReachesNearest, TurnedAwayChangeNothing, UndoReachesNearest}

-- ---- undo and redo
-- a list with a last state is not empty
not_none : (far : List State) (near : State) → far ++ near ∷ [] ≡ [] → ⊥
not_none far near is = absurd (omega (arith, length-append far (near ∷ []), ap length is))

pub undo_reaches : UndoReachesNearest
undo_reaches old new far near (Refused Memory) is s = s.1
undo_reaches old new far near (Refused JournalFull) is s = s.2
undo_reaches old new far near (Done number) is s =
    let back = (same_from_push new.earlier far new.current near (sym s.1.3.earlier ∙ is)).1 in
    (s.1.1 ∙ ap (λ (x : State). x.number) back, back)
undo_reaches old new far near (Refused (Moved current)) is s = absurd (s.1.0 refl)
undo_reaches old new far near (Refused NothingToUndo) is s = absurd (not_none far near (sym is ∙ s.1.1))
undo_reaches old new far near (Back Memory job unit) is s = absurd s.0
undo_reaches old new far near (Back JournalFull job unit) is s = absurd s.0
undo_reaches old new far near reply is s = absurd s.1

pub redo_reaches : RedoReachesNearest
redo_reaches old new far near (Refused Memory) is s = s.1
redo_reaches old new far near (Refused JournalFull) is s = s.2
redo_reaches old new far near (Done number) is s =
    let back = (same_from_push new.later far new.current near (sym s.1.3.later ∙ is)).1 in
    (s.1.1 ∙ ap (λ (x : State). x.number) back, back)
redo_reaches old new far near (Refused (Moved current)) is s = absurd (s.1.0 refl)
redo_reaches old new far near (Refused NothingToRedo) is s = absurd (not_none far near (sym is ∙ s.1.1))
redo_reaches old new far near (Back Memory job unit) is s = absurd s.0
redo_reaches old new far near (Back JournalFull job unit) is s = absurd s.0
redo_reaches old new far near reply is s = absurd s.1

-- ---- events that are turned away
-- want of memory changes nothing
kept_lacking : (old new : Machine) (event : Event) → Step old event (refused event Memory) new → new ≡ old
kept_lacking old new Look s = s.1
kept_lacking old new (Log asked) s = s.1
kept_lacking old new (Commit basis change) s = s.1
kept_lacking old new (Undo basis) s = s.1
kept_lacking old new (Redo basis) s = s.1
kept_lacking old new Take s = s.1
kept_lacking old new (Deliver job built) s = s.2
kept_lacking old new (GiveBack job) s = s.2

-- nor does want of room in the journal
kept_full : (old new : Machine) (event : Event) → Step old event (refused event JournalFull) new → new ≡ old
kept_full old new Look s = s.2
kept_full old new (Log asked) s = s.2
kept_full old new (Commit basis change) s = s.2
kept_full old new (Undo basis) s = s.2
kept_full old new (Redo basis) s = s.2
kept_full old new Take s = s.2
kept_full old new (Deliver job built) s = s.2
kept_full old new (GiveBack job) s = s.2

kept : (old new : Machine) (event : Event) (reply : Reply) → IsTurnedAway event reply → Step old event reply new → new ≡ old
kept old new event reply away s =
    ⊎_elim
    (λ (is : reply ≡ refused event Memory). kept_lacking old new event (subst (λ (x : Reply). Step old event x new) is s))
    (λ (is : reply ≡ refused event JournalFull). kept_full old new event (subst (λ (x : Reply). Step old event x new) is s))
    away

pub turned_away_change_nothing : TurnedAwayChangeNothing
turned_away_change_nothing old settled [] run away = run
turned_away_change_nothing old settled (e ∷ events) run away =
    turned_away_change_nothing run.0 settled events run.2 away.1 ∙ kept old run.0 e.0 e.1 away.0 run.1

-- ---- deliveries
pub deliveries_keep_neighbours : DeliveriesKeepNeighbours
deliveries_keep_neighbours old new job built number s =
    let is = s.1.3.4 in
    record {
      earlier = ap (λ (x : Content). x.earlier) is;
      later = ap (λ (x : Content). x.later) is;
      number = ap (λ (x : Content). x.current.number) is;
      files = ap (λ (x : Content). x.current.files) is;
      gains = subst (λ t. GainsUnit old.current.files old.current.finished job.package built.unit t)
          (sym (ap (λ (x : Content). x.current.finished) is)) s.1.3.3;
    }
