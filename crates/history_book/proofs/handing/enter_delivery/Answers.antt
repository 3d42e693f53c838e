-- The copy is the entry of the delivery and its answer.
use Rattle.std.proofs.Common.{subst, sym}
use Rattle.history_machine.specs.JournalSteps.{LeavesEntry}
use Rattle.history_machine.specs.declared.event.Event.TheVariants.{Deliver}
use Rattle.history_book.specs.Handed.{handed}
use Rattle.history_book.specs.declared.handed.Handed.{Handed}
use Rattle.history_book.proofs.Entered.{left_copy}
use Rattle.history_book.proofs.handing.enter_delivery.Goals as goal

pub returns-clause-copy : goal.returns-clause-copy
returns-clause-copy c =
    let current = c.args.content.now.current.number in
    let event = Deliver c.args.job c.args.built in
    let asked = c.deliver_on_current-answered.result in
    subst (λ (a : Handed). LeavesEntry current event (handed a) c.enter.result.1) (sym c.enter.ensures.answer)
    (left_copy current event (handed asked.answer) c.asked_of-asked.result asked.out asked.subject asked.made c.enter.result.1
    (record {
      kind_is = c.asked_of-asked.ensures.kind;
      basis_is = c.asked_of-asked.ensures.basis;
      out_is = c.deliver_on_current-answered.ensures.out;
      subject_is = c.deliver_on_current-answered.ensures.subject;
      edits_are = c.deliver_on_current-answered.ensures.made;
    })
    c.enter.ensures.copy)
