-- The state that wakes has the files that were made for it, and the state that was current rests beside its inverse.
use Rattle.std.proofs.Common.{◌+◌, refl, subst, ◌∙◌, arith}
use Rattle.base_edits.specs.EditSet.{FileChanges}
use Rattle.history_inverses.specs.Inverses.{StepsForth}
use Rattle.history_book.specs.declared.states.States.{States}
use Rattle.history_book.proofs.Roomier.{some_rest, taken_last}
use Rattle.history_book.proofs.StepsTaken.{can_wake, goes_forth, keeps_forth}
use Rattle.history_book.proofs.states.States.go_forth.Goals as goal

pub unwrap-waking-requires : goal.unwrap-waking-requires
unwrap-waking-requires c =
    let h = c.args.self.now in
    let some = some_rest h.current.files h.ways.ahead h.later.items c.requires.has.0 c.requires.has.1 c.requires.keeps.later in
    c.pop.ensures.variant.1 (omega (arith, some, h.later.ok.0))

pub wake-requires : goal.wake-requires
wake-requires c =
    let h = c.args.self.now in
    let has = c.requires.has in
    let left = taken_last h.later.items c.pop.new.self.items c.pop.result c.unwrap-waking.result c.pop.ensures.items c.unwrap-waking.ensures in
    record {
      rests =
          can_wake h.current.files c.args.moving.files h.ways.ahead has.1.0 h.later.items c.pop.new.self.items has.0 c.unwrap-waking.result has.2.files
          has.1.1 left c.requires.keeps.later;
      known = has.2.known;
    }

pub returns-clause-moves : goal.returns-clause-moves
returns-clause-moves c =
    let h = c.args.self.now in
    let new : States = record {
      earlier = c.push_reserved.new.self;
      current = c.replace-left.new.dest;
      later = c.pop.new.self;
      ways = c.went_forth.new.self;
      next = h.next;
      visit = h.visit + 1;
      begun = h.begun;
    } in
    let left = taken_last h.later.items c.pop.new.self.items c.pop.result c.unwrap-waking.result c.pop.ensures.items c.unwrap-waking.ensures in
    let steps = subst (λ (t : FileChanges). StepsForth h.ways t c.went_forth.new.self) c.take_up.ensures c.went_forth.ensures in
    goes_forth h new c.requires.keeps c.args.moving c.unwrap-waking.result (c.replace-left.ensures.after ∙ c.wake.ensures) refl refl refl steps
    c.requires.has left
    c.push_reserved.ensures.items

pub returns-clause-keeps : goal.returns-clause-keeps
returns-clause-keeps c =
    let h = c.args.self.now in
    let new : States = record {
      earlier = c.push_reserved.new.self;
      current = c.replace-left.new.dest;
      later = c.pop.new.self;
      ways = c.went_forth.new.self;
      next = h.next;
      visit = h.visit + 1;
      begun = h.begun;
    } in
    let left = taken_last h.later.items c.pop.new.self.items c.pop.result c.unwrap-waking.result c.pop.ensures.items c.unwrap-waking.ensures in
    let steps = subst (λ (t : FileChanges). StepsForth h.ways t c.went_forth.new.self) c.take_up.ensures c.went_forth.ensures in
    keeps_forth h new c.requires.keeps c.args.moving c.unwrap-waking.result (c.replace-left.ensures.after ∙ c.wake.ensures) refl refl refl steps
    c.requires.has left
    c.push_reserved.ensures.items
