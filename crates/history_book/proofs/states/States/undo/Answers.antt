-- The nearest inverse fits the files of the current state, and room for one state more changes no content.
use Rattle.std.proofs.Common.{List, refl, sym, subst, ◌∙◌, arith}
use Rattle.base_edits.specs.EditSet.{edited}
use Rattle.history_inverses.proofs.Walks.{fits_last}
use Rattle.history_machine.specs.declared.resting.Resting.{Resting}
use Rattle.history_machine.specs.Machine.{BeginsVisit, Content, IsOneBefore}
use Rattle.history_machine.specs.declared.event.Event.TheVariants.{Undo}
use Rattle.history_book.specs.Histories.{IsNearestState, content_of}
use Rattle.history_book.proofs.Roomier.{content_later, lacking_room, none_awake}
use Rattle.history_book.proofs.StepsTaken.{can_wake}
use Rattle.history_book.proofs.states.States.undo.Goals as goal

pub make_move-requires : goal.make_move-requires
make_move-requires c =
    let h = c.args.self.now in
    let w = h.current.files in
    let way = c.in-Some.way.now in
    let waking = c.in-Some-nearest.waking.now in
    let last = c.in-Some.ensures in
    let near = subst (λ (rests : List Resting). IsNearestState rests waking) c.deref.ensures.value c.in-Some-nearest.ensures in
    record {
      fits = fits_last w h.ways.behind way last c.requires.keeps.stands.behind;
      rests = can_wake w (edited way w) h.ways.behind last.0 h.earlier.items near.0 way waking refl last.1 near.1 c.requires.keeps.earlier;
    }

pub returns-clause-moves : goal.returns-clause-moves
returns-clause-moves c limits out =
    let h = c.args.self.now in
    let same = content_later h c.make_room_for_one.new.states c.make_room_for_one.ensures.items limits out in
    let new = content_of c.go_back.new.self limits out in
    let moved = c.go_back.ensures.moves limits out in (
      omega (arith, c.number-number.ensures),
      c.go_back.ensures.number,
      subst (λ (m : Content). BeginsVisit m new) same moved.0,
      subst (λ (m : Content). IsOneBefore new m) same moved.1,
    )

pub returns-in_default-nearest-clause-moves : goal.returns-in_default-nearest-clause-moves
returns-in_default-nearest-clause-moves c limits out =
    let h = c.args.self.now in (
      omega (arith, c.number-number.ensures),
      none_awake h.current.files h.ways.behind h.earlier.items (sym c.deref.ensures.value ∙ c.in_default-nearest.ensures),
      refl,
    )

pub returns-in_err-make_room_for_one-clause-moves : goal.returns-in_err-make_room_for_one-clause-moves
returns-in_err-make_room_for_one-clause-moves c limits out =
    let h = c.args.self.now in
    let new = content_of (record h { later = c.make_room_for_one.new.states }) limits out in
    let same = content_later h c.make_room_for_one.new.states c.make_room_for_one.ensures.items limits out in
    lacking_room (content_of h limits out) new (Undo c.args.basis) c.from_residual-in_err-make_room_for_one.result (λ none. none)
    c.from_residual-in_err-make_room_for_one.ensures.1 same
