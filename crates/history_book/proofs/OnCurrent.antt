-- An event that is answered and entered in the journal, once there is room for its entry.
use Rattle.std.proofs.Common.{◌≡◌, ℕ, ◌+◌, ◌≤◌, ◌↔◌, List, length, false, IsTrue, sym, subst}
use Rattle.std.proofs.lemmas.Bool.{false≢true}
use Rattle.build_unit.specs.Jobs.{JobsOut}
use Rattle.workspace_snapshot.specs.declared.change.Change.{Change}
use Rattle.history_machine.specs.declared.entry.Entry.{Entry}
use Rattle.history_machine.specs.declared.entry.EntryKind.TheVariants as kind
use Rattle.history_machine.specs.declared.event.Event.{Event}
use Rattle.history_machine.specs.declared.event.Event.TheVariants.{Commit}
use Rattle.history_machine.specs.declared.event.Reply.{Reply}
use Rattle.history_machine.specs.Journal.{event_kind}
use Rattle.history_machine.specs.Machine.{Content, Machine, with_journal}
use Rattle.history_machine.specs.Step.{BringsOut, HasPlace, HasRoom, EntersEvent, Step, entries_due}
use Rattle.history_machine.proofs.Legal.{BookInvariant, holds_on}
use Rattle.history_book.specs.declared.question.Asked.{Asked}
use Rattle.history_book.specs.Needed.{entries_needed}
use Rattle.history_book.proofs.Needed.{place_now, room_is}

-- a change brings no Job
pub brings_none : (asked : Asked) (basis : ℕ) (change : Change) (out : JobsOut) → asked ≡ record { kind = kind.Commit; basis = basis; is_out = false } →
    (IsTrue asked.is_out ↔ BringsOut out (Commit basis change))
brings_none asked basis change out is =
    subst (λ (a : Asked). IsTrue a.is_out ↔ BringsOut out (Commit basis change)) (sym is) (λ e. false≢true e, λ none. absurd none)

module _ (old : Content) (journal : List Entry) (capacity : ℕ) (mid : List Entry) (more : ℕ) (asked : Asked) (needed : ℕ) (event : Event) where
  -- what is known once there is room
  pub record HasMadeRoom : Type 0 where
    pub held : BookInvariant old journal capacity
    pub same : mid ≡ journal
    pub grown : capacity ≤ more
    pub kind_is : asked.kind ≡ event_kind event
    pub out_is : IsTrue asked.is_out ↔ BringsOut old.out event
    pub needs : needed ≡ entries_needed asked
    pub fits : entries_due (with_journal old journal) + needed ≤ old.limits.journal
    pub place : (IsTrue asked.is_out → ⊥) → length mid + length old.out.jobs + 2 ≤ more

  pub entered_on : (new : Content) (journals : List Entry) (last : ℕ) (reply : Reply) → HasMadeRoom → last ≡ more → EntersEvent old mid event reply new journals
      → BookInvariant new journals last × Step (with_journal old journal) event reply (with_journal new journals)
  entered_on new journals last reply r is_last keeps =
      let m : Machine = with_journal old journal in
      let room : HasRoom m event = (room_is m event asked needed r.kind_is r.out_is r.held.3 r.needs).1 r.fits in
      let place : HasPlace more (length mid + length old.out.jobs) old.out event =
      place_now more (length mid + length old.out.jobs) old.out event asked.is_out r.out_is r.place in
      holds_on old new journal mid journals capacity more last event reply r.held r.same r.grown is_last room place keeps
