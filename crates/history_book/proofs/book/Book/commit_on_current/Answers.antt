-- The change is entered once there is room, and that is a step. The bounds that the journal gives still hold, and the content is still the
-- journal's replay.
use Rattle.std.proofs.Common.{◌+◌, ◌≤◌, ◌↔◌, IsTrue, sym, ap, subst, vec_capacity}
use Rattle.history_machine.specs.Machine.{Machine, with_journal}
use Rattle.history_machine.specs.JournalSteps.{JournalStep}
use Rattle.history_machine.specs.Step.{done, entries_due}
use Rattle.history_machine.specs.declared.event.Event.TheVariants.{Commit}
use Rattle.history_machine.proofs.JournalSteps.{journal_step}
use Rattle.history_machine.proofs.Legal.{holds_still}
use Rattle.history_book.specs.declared.question.Asked.{Asked}
use Rattle.history_book.proofs.BookUnits.{bounds_of, kept_on, kept_still}
use Rattle.history_book.proofs.OnCurrent.{brings_none, entered_on}
use Rattle.history_book.proofs.book.Book.commit_on_current.Goals as goal

pub invariant_of-self : goal.invariant_of-self
invariant_of-self c =
    let room = vec_capacity c.self.inside.journal in
    let more = vec_capacity c.make_room.new.journal in
    kept_still c.self.inside.content c.self.inside.journal.items c.make_room.new.journal.items room more c.self.invariant
    (holds_still c.self.inside.content c.self.inside.journal.items c.make_room.new.journal.items room more c.make_room.ensures.items c.make_room.ensures.grows
    (bounds_of c.self.inside.content c.self.inside.journal.items room c.self.invariant))

pub invariant_of-self-in-Ok : goal.invariant_of-self-in-Ok
invariant_of-self-in-Ok c =
    let m : Machine = with_journal c.self.inside.content c.self.inside.journal.items in
    let tested : IsTrue c.has_room.result ↔ (entries_due m + c.entries_needed.result ≤ m.limits.journal) =
    subst (λ (x : Machine). IsTrue c.has_room.result ↔ (entries_due x + c.entries_needed.result ≤ x.limits.journal)) (sym c.self.view_is) c.has_room.ensures in
    kept_on c.self.inside.content c.enter_on_current.new.content c.self.inside.journal.items c.enter_on_current.new.journal.items
    (vec_capacity c.self.inside.journal) (vec_capacity c.enter_on_current.new.journal) (Commit c.args.basis c.args.change)
    (done c.enter_on_current.result.0) c.self.invariant
    (entered_on c.self.inside.content c.self.inside.journal.items (vec_capacity c.self.inside.journal) c.make_room.new.journal.items
    (vec_capacity c.make_room.new.journal) c.alone-asked.result c.entries_needed.result (Commit c.args.basis c.args.change)
    c.enter_on_current.new.content c.enter_on_current.new.journal.items (vec_capacity c.enter_on_current.new.journal) (done c.enter_on_current.result.0)
    (record {
      held = bounds_of c.self.inside.content c.self.inside.journal.items (vec_capacity c.self.inside.journal) c.self.invariant;
      same = c.make_room.ensures.items;
      grown = c.make_room.ensures.grows;
      kind_is = ap (λ (a : Asked). a.kind) c.alone-asked.ensures;
      out_is = brings_none c.alone-asked.result c.args.basis c.args.change c.self.inside.content.out c.alone-asked.ensures;
      needs = c.entries_needed.ensures;
      fits = tested.0 c.if-not-has_room.false;
      place = c.in-Ok.ensures.ok;
    })
    c.enter_on_current.ensures.capacity c.enter_on_current.ensures.keeps)

-- its facts are those of the goal before: an answer speaks of the values of its own goal
pub returns-in-Ok : goal.returns-in-Ok
returns-in-Ok c =
    let m : Machine = with_journal c.self.inside.content c.self.inside.journal.items in
    let tested : IsTrue c.has_room.result ↔ (entries_due m + c.entries_needed.result ≤ m.limits.journal) =
    subst (λ (x : Machine). IsTrue c.has_room.result ↔ (entries_due x + c.entries_needed.result ≤ x.limits.journal)) (sym c.self.view_is) c.has_room.ensures in
    let on = entered_on c.self.inside.content c.self.inside.journal.items (vec_capacity c.self.inside.journal) c.make_room.new.journal.items
    (vec_capacity c.make_room.new.journal) c.alone-asked.result c.entries_needed.result (Commit c.args.basis c.args.change)
    c.enter_on_current.new.content c.enter_on_current.new.journal.items (vec_capacity c.enter_on_current.new.journal) (done c.enter_on_current.result.0)
    (record {
      held = bounds_of c.self.inside.content c.self.inside.journal.items (vec_capacity c.self.inside.journal) c.self.invariant;
      same = c.make_room.ensures.items;
      grown = c.make_room.ensures.grows;
      kind_is = ap (λ (a : Asked). a.kind) c.alone-asked.ensures;
      out_is = brings_none c.alone-asked.result c.args.basis c.args.change c.self.inside.content.out c.alone-asked.ensures;
      needs = c.entries_needed.ensures;
      fits = tested.0 c.if-not-has_room.false;
      place = c.in-Ok.ensures.ok;
    })
    c.enter_on_current.ensures.capacity c.enter_on_current.ensures.keeps in
    subst (λ (x : Machine). JournalStep x (Commit c.args.basis c.args.change) (done c.enter_on_current.result.0) c.enter_on_current.result.1
    (with_journal c.enter_on_current.new.content c.enter_on_current.new.journal.items)) c.self.view_is
    (journal_step m (Commit c.args.basis c.args.change) (done c.enter_on_current.result.0) c.enter_on_current.result.1
    (with_journal c.enter_on_current.new.content c.enter_on_current.new.journal.items) on.1 c.enter_on_current.ensures.copy)
