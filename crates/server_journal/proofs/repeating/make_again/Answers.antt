-- Each kind of change is made once more as it was.
use Rattle.std.proofs.Common.{refl, sym, subst}
use Rattle.std.specs.Prelude.{IfErr, OnOk}
use Rattle.history_machine.specs.declared.event.Event.TheVariants as event
use Rattle.history_records.specs.declared.change.KeptChange.{KeptChange}
use Rattle.history_records.specs.declared.change.KeptChange.TheVariants.{Undo, Redo}
use Rattle.server_journal.specs.Recovered.{FailsToRepeat, Repeats}
use Rattle.server_journal.proofs.Repeated.{done_again, fails_again, redo_refused, undo_refused}
use Rattle.server_journal.proofs.repeating.make_again.Goals as goal

pub returns-in-Undo-clause-ok : goal.returns-in-Undo-clause-ok
returns-in-Undo-clause-ok c =
    let old = c.args.book.now in
    let new = c.step.new.self in
    let basis = c.in-Undo.basis in
    subst (λ (x : KeptChange). OnOk c.is_done.result (Repeats old x new)) (sym c.in-Undo.is)
    (done_again old new (event.Undo basis) (Undo basis) c.step.result c.is_done.result refl c.step.ensures c.is_done.ensures.ok)

pub returns-in-Undo-clause-err : goal.returns-in-Undo-clause-err
returns-in-Undo-clause-err c =
    let old = c.args.book.now in
    let new = c.step.new.self in
    let basis = c.in-Undo.basis in
    subst (λ (x : KeptChange). IfErr c.is_done.result (FailsToRepeat old x)) (sym c.in-Undo.is)
    (fails_again old new (event.Undo basis) (Undo basis) c.step.result c.is_done.result (undo_refused old new basis) c.step.ensures c.is_done.ensures.ok
    c.is_done.ensures.err)

pub returns-in-Redo-clause-ok : goal.returns-in-Redo-clause-ok
returns-in-Redo-clause-ok c =
    let old = c.args.book.now in
    let new = c.step-in-Redo.new.self in
    let basis = c.in-Redo.basis in
    subst (λ (x : KeptChange). OnOk c.is_done-in-Redo.result (Repeats old x new)) (sym c.in-Redo.is)
    (done_again old new (event.Redo basis) (Redo basis) c.step-in-Redo.result c.is_done-in-Redo.result refl c.step-in-Redo.ensures
    c.is_done-in-Redo.ensures.ok)

pub returns-in-Redo-clause-err : goal.returns-in-Redo-clause-err
returns-in-Redo-clause-err c =
    let old = c.args.book.now in
    let new = c.step-in-Redo.new.self in
    let basis = c.in-Redo.basis in
    subst (λ (x : KeptChange). IfErr c.is_done-in-Redo.result (FailsToRepeat old x)) (sym c.in-Redo.is)
    (fails_again old new (event.Redo basis) (Redo basis) c.step-in-Redo.result c.is_done-in-Redo.result (redo_refused old new basis) c.step-in-Redo.ensures
    c.is_done-in-Redo.ensures.ok c.is_done-in-Redo.ensures.err)
