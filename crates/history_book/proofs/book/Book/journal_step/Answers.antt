-- The answer with its entry is a step. The bounds that the journal gives still hold, and the content is still the journal's replay.
use Rattle.std.proofs.Common.{◌+◌, ◌≤◌, ◌↔◌, IsTrue, List, length, sym, subst, ◌∙◌, vec_capacity, None}
use Rattle.std.proofs.lemmas.Bool.{false≢true}
use Rattle.history_machine.specs.Machine.{Machine, with_journal}
use Rattle.history_machine.specs.JournalSteps.{JournalStep}
use Rattle.history_machine.specs.Step.{HasRoom, entries_due}
use Rattle.history_machine.specs.declared.entry.Entry.{Entry}
use Rattle.history_machine.specs.declared.event.Event.{Event}
use Rattle.history_machine.specs.declared.event.Reply.{Reply}
use Rattle.history_book.proofs.BookUnits.{bounds_of, kept_on, kept_still}
use Rattle.history_book.proofs.Needed.{place_now, room_is}
use Rattle.history_machine.proofs.JournalSteps.{full_kept, lacking_kept, journal_step}
use Rattle.history_machine.proofs.Legal.{holds_on, holds_still}
use Rattle.history_book.proofs.book.Book.journal_step.Goals as goal

pub invariant_of-self-in-Err : goal.invariant_of-self-in-Err
invariant_of-self-in-Err g c =
    let room = vec_capacity c.self.inside.journal in
    let more = vec_capacity c.make_room.new.journal in
    kept_still c.self.inside.content c.self.inside.journal.items c.make_room.new.journal.items room more c.self.invariant
    (holds_still c.self.inside.content c.self.inside.journal.items c.make_room.new.journal.items room more c.make_room.ensures.items c.make_room.ensures.grows
    (bounds_of c.self.inside.content c.self.inside.journal.items room c.self.invariant))

pub answer-requires-clause-place : goal.answer-requires-clause-place
answer-requires-clause-place g c =
    let event : Event = g.Q.Question.event c.args.question in
    place_now (vec_capacity c.make_room.new.journal) (length c.make_room.new.journal.items + length c.self.inside.content.out.jobs)
    c.self.inside.content.out event c.asked-asked.result.is_out c.asked-asked.ensures.out c.in-Ok.ensures.ok

pub invariant_of-self : goal.invariant_of-self
invariant_of-self g c =
    let m : Machine = with_journal c.self.inside.content c.self.inside.journal.items in
    let event : Event = g.Q.Question.event c.args.question in
    let tested : IsTrue c.has_room.result ↔ (entries_due m + c.entries_needed.result ≤ m.limits.journal) =
    subst (λ (x : Machine). IsTrue c.has_room.result ↔ (entries_due x + c.entries_needed.result ≤ x.limits.journal)) (sym c.self.view_is) c.has_room.ensures in
    let fits : HasRoom m event ↔ (entries_due m + c.entries_needed.result ≤ m.limits.journal) =
    room_is m event c.asked-asked.result c.entries_needed.result c.asked-asked.ensures.kind c.asked-asked.ensures.out c.self.invariant.3
    c.entries_needed.ensures in
    let place = place_now (vec_capacity c.make_room.new.journal) (length c.make_room.new.journal.items + length c.self.inside.content.out.jobs)
    c.self.inside.content.out event c.asked-asked.result.is_out c.asked-asked.ensures.out c.in-Ok.ensures.ok in
    let on = holds_on c.self.inside.content c.answer.new.content c.self.inside.journal.items c.make_room.new.journal.items c.answer.new.journal.items
    (vec_capacity c.self.inside.journal) (vec_capacity c.make_room.new.journal) (vec_capacity c.answer.new.journal) event
    (g.Q.Question.reply c.answer.result.0) (bounds_of c.self.inside.content c.self.inside.journal.items (vec_capacity c.self.inside.journal) c.self.invariant)
    c.make_room.ensures.items c.make_room.ensures.grows c.answer.ensures.capacity
    (fits.1 (tested.0 c.if-not-has_room.false)) place c.answer.ensures.keeps in
    kept_on c.self.inside.content c.answer.new.content c.self.inside.journal.items c.answer.new.journal.items (vec_capacity c.self.inside.journal)
    (vec_capacity c.answer.new.journal) event (g.Q.Question.reply c.answer.result.0) c.self.invariant on

-- its facts are those of the goal before: an answer speaks of the values of its own goal
pub returns-in-Ok : goal.returns-in-Ok
returns-in-Ok g c =
    let m : Machine = with_journal c.self.inside.content c.self.inside.journal.items in
    let event : Event = g.Q.Question.event c.args.question in
    let tested : IsTrue c.has_room.result ↔ (entries_due m + c.entries_needed.result ≤ m.limits.journal) =
    subst (λ (x : Machine). IsTrue c.has_room.result ↔ (entries_due x + c.entries_needed.result ≤ x.limits.journal)) (sym c.self.view_is) c.has_room.ensures in
    let fits : HasRoom m event ↔ (entries_due m + c.entries_needed.result ≤ m.limits.journal) =
    room_is m event c.asked-asked.result c.entries_needed.result c.asked-asked.ensures.kind c.asked-asked.ensures.out c.self.invariant.3
    c.entries_needed.ensures in
    let place = place_now (vec_capacity c.make_room.new.journal) (length c.make_room.new.journal.items + length c.self.inside.content.out.jobs)
    c.self.inside.content.out event c.asked-asked.result.is_out c.asked-asked.ensures.out c.in-Ok.ensures.ok in
    let on = holds_on c.self.inside.content c.answer.new.content c.self.inside.journal.items c.make_room.new.journal.items c.answer.new.journal.items
    (vec_capacity c.self.inside.journal) (vec_capacity c.make_room.new.journal) (vec_capacity c.answer.new.journal) event
    (g.Q.Question.reply c.answer.result.0) (bounds_of c.self.inside.content c.self.inside.journal.items (vec_capacity c.self.inside.journal) c.self.invariant)
    c.make_room.ensures.items c.make_room.ensures.grows c.answer.ensures.capacity
    (fits.1 (tested.0 c.if-not-has_room.false)) place c.answer.ensures.keeps in
    subst (λ (x : Machine). JournalStep x event (g.Q.Question.reply c.answer.result.0) c.answer.result.1
    (with_journal c.answer.new.content c.answer.new.journal.items)) c.self.view_is
    (journal_step m event (g.Q.Question.reply c.answer.result.0) c.answer.result.1 (with_journal c.answer.new.content c.answer.new.journal.items) on.1
    c.answer.ensures.copy)

pub returns-in-Err : goal.returns-in-Err
returns-in-Err g c =
    let m : Machine = with_journal c.self.inside.content c.self.inside.journal.items in
    let event : Event = g.Q.Question.event c.args.question in
    let reply : Reply = g.Q.Question.reply c.refuse-in-Err.result in
    let lacks = lacking_kept m event reply c.refuse-in-Err.ensures (λ brings. c.in-Err.ensures.err (c.asked-asked.ensures.out.1 brings)) in
    subst (λ (x : Machine). JournalStep x event reply None (with_journal c.self.inside.content c.make_room.new.journal.items)) c.self.view_is
    (subst (λ (j : List Entry). JournalStep m event reply None (with_journal c.self.inside.content j)) (sym c.make_room.ensures.items) lacks)

pub returns-then-not-has_room : goal.returns-then-not-has_room
returns-then-not-has_room g c =
    let m : Machine = with_journal c.self.inside.content c.self.inside.journal.items in
    let event : Event = g.Q.Question.event c.args.question in
    let tested : IsTrue c.has_room.result ↔ (entries_due m + c.entries_needed.result ≤ m.limits.journal) =
    subst (λ (x : Machine). IsTrue c.has_room.result ↔ (entries_due x + c.entries_needed.result ≤ x.limits.journal)) (sym c.self.view_is) c.has_room.ensures in
    let fits : HasRoom m event ↔ (entries_due m + c.entries_needed.result ≤ m.limits.journal) =
    room_is m event c.asked-asked.result c.entries_needed.result c.asked-asked.ensures.kind c.asked-asked.ensures.out c.self.invariant.3
    c.entries_needed.ensures in
    subst (λ (x : Machine). JournalStep x event (g.Q.Question.reply c.refuse.result) None x) c.self.view_is
    (full_kept m event (g.Q.Question.reply c.refuse.result) c.refuse.ensures (λ room. false≢true (sym c.if-not-has_room.true ∙ tested.1 (fits.0 room))))
