-- The base of the change is the state's files.
use Rattle.std.proofs.Common.{IfOk, sym, ap, subst, ◌∙◌}
use Rattle.workspace_snapshot.specs.declared.change.Change.{Change}
use Rattle.workspace_check.specs.Found.{KnowsVerdicts}
use Rattle.build_carry.specs.Changes.{MarkChanges}
use Rattle.build_carry.specs.Carried.{IsCarried}
use Rattle.history_machine.specs.State.{State}
use Rattle.history_book.proofs.following.carried_over.Goals as goal

pub marks_of-requires : goal.marks_of-requires
marks_of-requires c = c.requires ∙ sym (ap (λ (s : State). s.files) c.current.view_is)

pub carried_bare-requires : goal.carried_bare-requires
carried_bare-requires c = c.has_nothing.ensures c.if-has_nothing.true

pub returns-then-has_nothing-clause-units : goal.returns-then-has_nothing-clause-units
returns-then-has_nothing-clause-units c =
    let state = c.args.current.now in
    subst (λ (x : Change). IfOk c.carried_bare.result (λ carried. IsCarried state.files state.finished x.files carried.0)) c.get.ensures
    c.carried_bare.ensures.units

pub returns-then-has_nothing-clause-known : goal.returns-then-has_nothing-clause-known
returns-then-has_nothing-clause-known c =
    subst (λ (x : Change). IfOk c.carried_bare.result (λ carried. KnowsVerdicts x.files carried.1)) c.get.ensures c.carried_bare.ensures.known

pub carried_by-requires : goal.carried_by-requires
carried_by-requires c =
    let marks = c.in_ok-marks.marks in
    let files = c.args.change.now.files in record {
      before = subst (λ (x : Change). MarkChanges c.args.current.now.files x.files marks.before.items) (sym c.get.ensures)
          (subst (λ (s : State). MarkChanges s.files files marks.before.items) c.current.view_is c.in_ok-marks.ensures.before);
      after = subst (λ (x : Change). MarkChanges x.files c.args.current.now.files marks.after.items) (sym c.get.ensures)
          (subst (λ (s : State). MarkChanges files s.files marks.after.items) c.current.view_is c.in_ok-marks.ensures.after);
    }

pub returns-clause-units : goal.returns-clause-units
returns-clause-units c =
    let state = c.args.current.now in
    subst (λ (x : Change). IfOk c.carried_by.result (λ carried. IsCarried state.files state.finished x.files carried.0)) c.get.ensures
    c.carried_by.ensures.units

pub returns-clause-known : goal.returns-clause-known
returns-clause-known c =
    subst (λ (x : Change). IfOk c.carried_by.result (λ carried. KnowsVerdicts x.files carried.1)) c.get.ensures c.carried_by.ensures.known
