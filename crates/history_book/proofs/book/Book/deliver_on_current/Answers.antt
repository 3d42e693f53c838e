-- The delivery is entered once there is room, and that is a step. The bounds that the journal gives still hold, and the content is still
-- the journal's replay.
use Rattle.std.proofs.Common.{◌≡◌, ◌+◌, ◌≤◌, ◌↔◌, IsTrue, List, None, length, refl, sym, ap, subst, ◌∙◌, vec_capacity, arith}
use Rattle.std.proofs.lemmas.Bool.{false≢true}
use Rattle.base_files.specs.declared.refusal.Refusal.TheVariants.{Memory, JournalFull}
use Rattle.history_machine.specs.declared.entry.Entry.{Entry}
use Rattle.history_machine.specs.declared.event.Event.{Event}
use Rattle.history_machine.specs.declared.event.Event.TheVariants.{Deliver}
use Rattle.history_machine.specs.Machine.{Machine, with_journal}
use Rattle.history_machine.specs.JournalSteps.{JournalStep}
use Rattle.history_machine.specs.Step.{HasRoom, entries_due, refused}
use Rattle.history_machine.proofs.JournalSteps.{full_kept, journal_step, lacking_kept}
use Rattle.history_machine.proofs.Legal.{holds_still}
use Rattle.history_machine.proofs.Stepped.{place_for_one}
use Rattle.history_book.specs.CurrentInputs.{HasCurrentInputs}
use Rattle.history_book.specs.Handed.{handed}
use Rattle.history_book.proofs.Needed.{place_now, room_is}
use Rattle.history_book.proofs.BookUnits.{bounds_of, kept_on, kept_still}
use Rattle.history_book.proofs.OnCurrent.{entered_on}
use Rattle.history_book.proofs.book.Book.deliver_on_current.Goals as goal

pub returns-then-not-has_room : goal.returns-then-not-has_room
returns-then-not-has_room c =
    let m : Machine = with_journal c.self.inside.content c.self.inside.journal.items in
    let event : Event = Deliver c.args.job c.args.built in
    let tested : IsTrue c.has_room.result ↔ (entries_due m + c.entries_needed.result ≤ m.limits.journal) =
    subst (λ (x : Machine). IsTrue c.has_room.result ↔ (entries_due x + c.entries_needed.result ≤ x.limits.journal)) (sym c.self.view_is) c.has_room.ensures in
    let fits : HasRoom m event ↔ (entries_due m + c.entries_needed.result ≤ m.limits.journal) =
    room_is m event c.asked_of-asked.result c.entries_needed.result c.asked_of-asked.ensures.kind c.asked_of-asked.ensures.out c.self.invariant.3
    c.entries_needed.ensures in
    subst (λ (x : Machine). JournalStep x event (refused event JournalFull) None x) c.self.view_is
    (full_kept m event (refused event JournalFull) refl (λ room. false≢true (sym c.if-not-has_room.true ∙ tested.1 (fits.0 room))))

pub invariant_of-self : goal.invariant_of-self
invariant_of-self c =
    let room = vec_capacity c.self.inside.journal in
    let more = vec_capacity c.make_room.new.journal in
    kept_still c.self.inside.content c.self.inside.journal.items c.make_room.new.journal.items room more c.self.invariant
    (holds_still c.self.inside.content c.self.inside.journal.items c.make_room.new.journal.items room more c.make_room.ensures.items c.make_room.ensures.grows
    (bounds_of c.self.inside.content c.self.inside.journal.items room c.self.invariant))

pub returns-in-Err : goal.returns-in-Err
returns-in-Err c =
    let m : Machine = with_journal c.self.inside.content c.self.inside.journal.items in
    let event : Event = Deliver c.args.job c.args.built in
    let lacks = lacking_kept m event (refused event Memory) refl (λ brings. c.in-Err.ensures.err (c.asked_of-asked.ensures.out.1 brings)) in
    subst (λ (x : Machine). JournalStep x event (refused event Memory) None (with_journal c.self.inside.content c.make_room.new.journal.items)) c.self.view_is
    (subst (λ (j : List Entry). JournalStep m event (refused event Memory) None (with_journal c.self.inside.content j)) (sym c.make_room.ensures.items) lacks)

pub enter_delivery-requires : goal.enter_delivery-requires
enter_delivery-requires c =
    let old = c.self.inside.content in
    let mid = c.make_room.new.journal.items in
    let most = vec_capacity c.make_room.new.journal in
    let event : Event = Deliver c.args.job c.args.built in
    let same : length mid ≡ length c.self.inside.journal.items = ap (λ (j : List Entry). length j) c.make_room.ensures.items in
    let due : length mid + length old.out.jobs ≤ most = omega (arith, same, c.self.invariant.4, c.make_room.ensures.grows) in
    let place = place_now most (length mid + length old.out.jobs) old.out event c.asked_of-asked.result.is_out c.asked_of-asked.ensures.out
    c.in-Ok.ensures.ok in
    record {
      brings = subst (λ (m : Machine). HasCurrentInputs m.current.files c.args.job c.args.built) (sym c.self.view_is) c.requires;
      room = place_for_one most (length mid) old.out event due place;
    }

pub invariant_of-self-in-Ok : goal.invariant_of-self-in-Ok
invariant_of-self-in-Ok c =
    let m : Machine = with_journal c.self.inside.content c.self.inside.journal.items in
    let tested : IsTrue c.has_room.result ↔ (entries_due m + c.entries_needed.result ≤ m.limits.journal) =
    subst (λ (x : Machine). IsTrue c.has_room.result ↔ (entries_due x + c.entries_needed.result ≤ x.limits.journal)) (sym c.self.view_is) c.has_room.ensures in
    kept_on c.self.inside.content c.enter_delivery.new.content c.self.inside.journal.items c.enter_delivery.new.journal.items
    (vec_capacity c.self.inside.journal) (vec_capacity c.enter_delivery.new.journal) (Deliver c.args.job c.args.built)
    (handed c.enter_delivery.result.0) c.self.invariant
    (entered_on c.self.inside.content c.self.inside.journal.items (vec_capacity c.self.inside.journal) c.make_room.new.journal.items
    (vec_capacity c.make_room.new.journal) c.asked_of-asked.result c.entries_needed.result (Deliver c.args.job c.args.built)
    c.enter_delivery.new.content c.enter_delivery.new.journal.items (vec_capacity c.enter_delivery.new.journal) (handed c.enter_delivery.result.0)
    (record {
      held = bounds_of c.self.inside.content c.self.inside.journal.items (vec_capacity c.self.inside.journal) c.self.invariant;
      same = c.make_room.ensures.items;
      grown = c.make_room.ensures.grows;
      kind_is = c.asked_of-asked.ensures.kind;
      out_is = c.asked_of-asked.ensures.out;
      needs = c.entries_needed.ensures;
      fits = tested.0 c.if-not-has_room.false;
      place = c.in-Ok.ensures.ok;
    })
    c.enter_delivery.ensures.capacity c.enter_delivery.ensures.keeps)

-- its facts are those of the goal before: an answer speaks of the values of its own goal
pub returns-in-Ok : goal.returns-in-Ok
returns-in-Ok c =
    let m : Machine = with_journal c.self.inside.content c.self.inside.journal.items in
    let event : Event = Deliver c.args.job c.args.built in
    let tested : IsTrue c.has_room.result ↔ (entries_due m + c.entries_needed.result ≤ m.limits.journal) =
    subst (λ (x : Machine). IsTrue c.has_room.result ↔ (entries_due x + c.entries_needed.result ≤ x.limits.journal)) (sym c.self.view_is) c.has_room.ensures in
    let on = entered_on c.self.inside.content c.self.inside.journal.items (vec_capacity c.self.inside.journal) c.make_room.new.journal.items
    (vec_capacity c.make_room.new.journal) c.asked_of-asked.result c.entries_needed.result event c.enter_delivery.new.content
    c.enter_delivery.new.journal.items (vec_capacity c.enter_delivery.new.journal) (handed c.enter_delivery.result.0)
    (record {
      held = bounds_of c.self.inside.content c.self.inside.journal.items (vec_capacity c.self.inside.journal) c.self.invariant;
      same = c.make_room.ensures.items;
      grown = c.make_room.ensures.grows;
      kind_is = c.asked_of-asked.ensures.kind;
      out_is = c.asked_of-asked.ensures.out;
      needs = c.entries_needed.ensures;
      fits = tested.0 c.if-not-has_room.false;
      place = c.in-Ok.ensures.ok;
    })
    c.enter_delivery.ensures.capacity c.enter_delivery.ensures.keeps in
    subst (λ (x : Machine). JournalStep x event (handed c.enter_delivery.result.0) c.enter_delivery.result.1
    (with_journal c.enter_delivery.new.content c.enter_delivery.new.journal.items)) c.self.view_is
    (journal_step m event (handed c.enter_delivery.result.0) c.enter_delivery.result.1
    (with_journal c.enter_delivery.new.content c.enter_delivery.new.journal.items) on.1 c.enter_delivery.ensures.copy)
