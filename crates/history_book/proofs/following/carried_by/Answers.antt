-- The marks are those of a change of the state's files.
use Rattle.std.proofs.Common.{sym, subst}
use Rattle.build_carry.specs.Changes.{MarkChanges}
use Rattle.build_carry.specs.Carried.{IsCarried}
use Rattle.history_machine.specs.State.{State}
use Rattle.history_book.proofs.following.carried_by.Goals as goal

pub carried_units-requires : goal.carried_units-requires
carried_units-requires c = record {
  before_marks = subst (λ (s : State). MarkChanges s.files c.args.files.now c.args.marks.now.before.items) (sym c.current.view_is) c.requires.before;
  after_marks = subst (λ (s : State). MarkChanges c.args.files.now s.files c.args.marks.now.after.items) (sym c.current.view_is) c.requires.after;
}

pub kept-requires : goal.kept-requires
kept-requires c = record {
  known = c.current.invariant.1;
  before_marks = subst (λ (s : State). MarkChanges s.files c.args.files.now c.args.marks.now.before.items) (sym c.current.view_is) c.requires.before;
  after_marks = subst (λ (s : State). MarkChanges c.args.files.now s.files c.args.marks.now.after.items) (sym c.current.view_is) c.requires.after;
}

pub returns-clause-units : goal.returns-clause-units
returns-clause-units c =
    subst (λ (s : State). IsCarried s.files s.finished c.args.files.now c.in_ok-finished.finished) c.current.view_is c.in_ok-finished.ensures

pub returns-clause-known : goal.returns-clause-known
returns-clause-known c = c.in_ok-known.ensures
