-- The state that wakes has the files that were made for it, and the state that was current rests beside its inverse.
use Rattle.std.proofs.Common.{◌+◌, refl, subst, ◌∙◌, arith}
use Rattle.base_edits.specs.EditSet.{FileChanges}
use Rattle.history_inverses.specs.Inverses.{StepsBack}
use Rattle.history_book.specs.declared.states.States.{States}
use Rattle.history_book.proofs.Roomier.{some_rest, taken_last}
use Rattle.history_book.proofs.StepsTaken.{can_wake, goes_back, keeps_back}
use Rattle.history_book.proofs.states.States.go_back.Goals as goal

pub unwrap-waking-requires : goal.unwrap-waking-requires
unwrap-waking-requires c =
    let h = c.args.self.now in
    let some = some_rest h.current.files h.ways.behind h.earlier.items c.requires.has.0 c.requires.has.1 c.requires.keeps.earlier in
    c.pop.ensures.variant.1 (omega (arith, some, h.earlier.ok.0))

pub wake-requires : goal.wake-requires
wake-requires c =
    let h = c.args.self.now in
    let has = c.requires.has in
    let left = taken_last h.earlier.items c.pop.new.self.items c.pop.result c.unwrap-waking.result c.pop.ensures.items c.unwrap-waking.ensures in
    record {
      rests =
          can_wake h.current.files c.args.moving.files h.ways.behind has.1.0 h.earlier.items c.pop.new.self.items has.0 c.unwrap-waking.result has.2.files
          has.1.1 left c.requires.keeps.earlier;
      known = has.2.known;
    }

pub returns-clause-moves : goal.returns-clause-moves
returns-clause-moves c =
    let h = c.args.self.now in
    let new : States = record {
      earlier = c.pop.new.self;
      current = c.replace-left.new.dest;
      later = c.push_reserved.new.self;
      ways = c.went_back.new.self;
      next = h.next;
      visit = h.visit + 1;
      begun = h.begun;
    } in
    let left = taken_last h.earlier.items c.pop.new.self.items c.pop.result c.unwrap-waking.result c.pop.ensures.items c.unwrap-waking.ensures in
    let steps = subst (λ (t : FileChanges). StepsBack h.ways t c.went_back.new.self) c.take_up.ensures c.went_back.ensures in
    goes_back h new c.requires.keeps c.args.moving c.unwrap-waking.result (c.replace-left.ensures.after ∙ c.wake.ensures) refl refl refl steps
    c.requires.has left
    c.push_reserved.ensures.items

pub returns-clause-keeps : goal.returns-clause-keeps
returns-clause-keeps c =
    let h = c.args.self.now in
    let new : States = record {
      earlier = c.pop.new.self;
      current = c.replace-left.new.dest;
      later = c.push_reserved.new.self;
      ways = c.went_back.new.self;
      next = h.next;
      visit = h.visit + 1;
      begun = h.begun;
    } in
    let left = taken_last h.earlier.items c.pop.new.self.items c.pop.result c.unwrap-waking.result c.pop.ensures.items c.unwrap-waking.ensures in
    let steps = subst (λ (t : FileChanges). StepsBack h.ways t c.went_back.new.self) c.take_up.ensures c.went_back.ensures in
    keeps_back h new c.requires.keeps c.args.moving c.unwrap-waking.result (c.replace-left.ensures.after ∙ c.wake.ensures) refl refl refl steps
    c.requires.has left
    c.push_reserved.ensures.items
