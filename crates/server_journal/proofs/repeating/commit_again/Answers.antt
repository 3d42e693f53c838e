-- The change of the current files by the edits is made once more.
use Rattle.std.proofs.Common.{Some, sym, ap, subst}
use Rattle.base_edits.specs.EditSet.{FileChanges}
use Rattle.history_machine.specs.Machine.{content}
use Rattle.history_machine.specs.declared.event.Event.TheVariants as event
use Rattle.history_records.specs.declared.change.KeptChange.TheVariants.{Commit}
use Rattle.law_changes.specs.Changes.{states_kept}
use Rattle.server_journal.specs.Recovered.{IsPossible}
use Rattle.server_journal.proofs.Repeated.{commit_refused, done_again, fails_again}
use Rattle.server_journal.proofs.repeating.commit_again.Goals as goal

pub returns-clause-ok : goal.returns-clause-ok
returns-clause-ok c =
    done_again c.args.book.now c.commit_on_current-answer.new.self (event.Commit c.args.basis c.in_ok-change.change) (Commit c.args.basis c.args.edits)
    c.commit_on_current-answer.result.0 c.is_done.result (ap (λ (e : FileChanges). Some (Commit c.args.basis e)) c.in_ok-change.ensures.ok.1)
    c.commit_on_current-answer.ensures.0 c.is_done.ensures.ok

pub returns-clause-err : goal.returns-clause-err
returns-clause-err c =
    let old = c.args.book.now in
    let new = c.commit_on_current-answer.new.self in
    let basis = c.args.basis in
    let made = c.in_ok-change.change in
    let edited = c.in_ok-change.ensures.ok in
    fails_again old new (event.Commit basis made) (Commit basis c.args.edits) c.commit_on_current-answer.result.0 c.is_done.result
    (λ why step good possible.
    commit_refused old new basis made why edited.0 step good
    (subst (λ (e : FileChanges). IsPossible (Commit basis e) (states_kept (content old))) (sym edited.1) possible))
    c.commit_on_current-answer.ensures.0 c.is_done.ensures.ok c.is_done.ensures.err
