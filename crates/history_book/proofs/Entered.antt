-- The entry that an answered event leaves in the journal.
use Rattle.std.proofs.Common.{◌≡◌, ℕ, ◌∷◌, [], ◌++◌, List, Option, MatchOption, Some, None, refl, sym, ap, subst, ◌∙◌}
use Rattle.base_edits.specs.EditSet.{FileChanges}
use Rattle.history_machine.specs.declared.entry.Entry.{Entry}
use Rattle.history_machine.specs.declared.entry.Told.{Told}
use Rattle.history_machine.specs.declared.event.Event.{Event}
use Rattle.history_machine.specs.declared.event.Reply.{Reply}
use Rattle.history_machine.specs.Journal.{ShowsLine, event_basis, edits_of, entry_of, event_kind, subject_after, event_subject, told_of}
use Rattle.history_machine.specs.JournalSteps.{LeavesEntry}
use Rattle.history_machine.specs.Machine.{Content}
use Rattle.history_machine.specs.Step.{AnswersOrLacks, EntersEvent}
use Rattle.history_book.specs.Entered.{entry_left, with_entry}
use Rattle.history_book.specs.declared.question.Asked.{Asked}

-- the facts that are known of an event before its answer, and those that its answer adds, make up its entry
pub record MakesEntry (current : ℕ) (event : Event) (reply : Reply) (asked : Asked) (out : Option Told) (subject : Option ℕ) (edits : Option FileChanges)
    : Type 0 where
  pub kind_is : asked.kind ≡ event_kind event
  pub basis_is : asked.basis ≡ event_basis current event
  pub out_is : out ≡ told_of reply
  pub subject_is : subject ≡ subject_after (event_subject event) reply
  pub edits_are : edits ≡ edits_of event reply

-- the entry of the event and its reply with this outcome; none without an outcome
abbrev entry_if : ℕ → Event → Reply → Option Told → Option Entry
entry_if current event reply None = None
entry_if current event reply (Some told) = Some (entry_of current event reply told)

module _ (current : ℕ) (event : Event) (reply : Reply) where
  left_told : (asked : Asked) (out : Option Told) (subject : Option ℕ) (edits : Option FileChanges) → asked.kind ≡ event_kind event →
      asked.basis ≡ event_basis current event → subject ≡ subject_after (event_subject event) reply → edits ≡ edits_of event reply →
      entry_left asked out subject edits ≡ entry_if current event reply out
  left_told asked None subject edits kind basis subject_is edits_are = refl
  left_told asked (Some told) subject edits kind basis subject_is edits_are =
      λ i. Some (record { line = record { kind = kind i; basis = basis i; out = told }; subject = subject_is i; edits = edits_are i })

  left_is : (asked : Asked) (out : Option Told) (subject : Option ℕ) (edits : Option FileChanges) → MakesEntry current event reply asked out subject edits →
      entry_left asked out subject edits ≡ entry_if current event reply (told_of reply)
  left_is asked out subject edits t =
      left_told asked out subject edits t.kind_is t.basis_is t.subject_is t.edits_are ∙ ap (λ (o : Option Told). entry_if current event reply o) t.out_is

  copied : (told : Option Told) → told_of reply ≡ told → LeavesEntry current event reply (entry_if current event reply told)
  copied None is = is
  copied (Some told) is = (told, is, refl)

  journaled : (journal journals : List Entry) (told : Option Told) → journals ≡ with_entry journal (entry_if current event reply told) →
      MatchOption told (journals ≡ journal) (λ out. journals ≡ journal ++ entry_of current event reply out ∷ [])
  journaled journal journals None is = is
  journaled journal journals (Some told) is = is

-- the copy is the entry of the event and its reply
pub left_copy : (current : ℕ) (event : Event) (reply : Reply) (asked : Asked) (out : Option Told) (subject : Option ℕ) (edits : Option FileChanges)
    (left : Option Entry) → MakesEntry current event reply asked out subject edits → left ≡ entry_left asked out subject edits →
    LeavesEntry current event reply left
left_copy current event reply asked out subject edits left t is =
    subst (LeavesEntry current event reply) (sym (is ∙ left_is current event reply asked out subject edits t)) (copied current event reply (told_of reply) refl)

-- the journal gains the entry of the event and its reply
pub left_kept : (old : Content) (journal : List Entry) (event : Event) (reply : Reply) (new : Content) (journals : List Entry) (asked : Asked)
    (out : Option Told) (subject : Option ℕ) (edits : Option FileChanges) (left : Option Entry) → AnswersOrLacks old event reply new →
    ShowsLine old.begun journal event reply → MakesEntry old.current.number event reply asked out subject edits → left ≡ entry_left asked out subject edits →
    journals ≡ with_entry journal left → EntersEvent old journal event reply new journals
left_kept old journal event reply new journals asked out subject edits left answers shows t is entered = (
  answers,
  shows,
  journaled old.current.number event reply journal journals (told_of reply)
      (entered ∙ ap (λ (e : Option Entry). with_entry journal e) (is ∙ left_is old.current.number event reply asked out subject edits t)),
)
