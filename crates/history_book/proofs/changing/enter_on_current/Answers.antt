-- The copy is the entry of the commit and its answer.
use Rattle.std.proofs.Common.{ap, subst, sym, Result, ℕ}
use Rattle.base_files.specs.declared.refusal.Refusal.{Refusal}
use Rattle.history_machine.specs.JournalSteps.{LeavesEntry}
use Rattle.history_machine.specs.Step.{done}
use Rattle.history_machine.specs.declared.event.Event.TheVariants.{Commit}
use Rattle.history_book.specs.declared.question.Asked.{Asked}
use Rattle.history_book.proofs.Entered.{left_copy}
use Rattle.history_book.proofs.changing.enter_on_current.Goals as goal

pub returns-clause-copy : goal.returns-clause-copy
returns-clause-copy c =
    let current = c.args.content.now.current.number in
    let event = Commit c.args.basis c.args.change in
    let asked = c.commit_on_current-answered.result in
    subst (λ (a : Result ℕ Refusal). LeavesEntry current event (done a) c.enter.result.1) (sym c.enter.ensures.answer)
    (left_copy current event (done asked.answer) c.alone-asked.result asked.out asked.subject asked.made c.enter.result.1
    (record {
      kind_is = ap (λ (a : Asked). a.kind) c.alone-asked.ensures;
      basis_is = ap (λ (a : Asked). a.basis) c.alone-asked.ensures;
      out_is = c.commit_on_current-answered.ensures.out;
      subject_is = c.commit_on_current-answered.ensures.subject;
      edits_are = c.commit_on_current-answered.ensures.made;
    })
    c.enter.ensures.copy)
