-- There is room for one entry more, and the entry is that of the event and its answer.
use Rattle.std.proofs.Common.{◌≤◌, ◌+◌, List, length, vec_capacity, sym, subst, arith}
use Rattle.history_machine.specs.declared.entry.Entry.{Entry}
use Rattle.history_machine.specs.Journal.{ShowsLine}
use Rattle.history_machine.specs.JournalSteps.{LeavesEntry}
use Rattle.history_machine.specs.Step.{EntersEvent}
use Rattle.history_machine.proofs.Stepped.{place_for_one}
use Rattle.history_book.proofs.Entered.{left_copy, left_kept}
use Rattle.history_book.proofs.answering.answer.Goals as goal

pub enter-requires : goal.enter-requires
enter-requires g c =
    let one : length c.args.journal.now.items + 1 ≤ vec_capacity c.args.journal.now =
    place_for_one (vec_capacity c.args.journal.now) (length c.args.journal.now.items) c.args.content.now.out (g.Q.Question.event c.args.question)
    c.requires.due c.requires.place in
    omega (arith, one)

pub returns-clause-keeps : goal.returns-clause-keeps
returns-clause-keeps g c =
    let old = c.args.content.now in
    let event = g.Q.Question.event c.args.question in
    let asked = c.ask-answered.result in
    subst (λ a. EntersEvent old c.args.journal.now.items event (g.Q.Question.reply a) c.ask-answered.new.content c.enter.new.journal.items)
    (sym c.enter.ensures.answer)
    (left_kept old c.args.journal.now.items event (g.Q.Question.reply asked.answer) c.ask-answered.new.content c.enter.new.journal.items c.args.asked asked.out
    asked.subject asked.made c.enter.result.1 c.ask-answered.ensures.answer
    (subst (λ (j : List Entry). ShowsLine old.begun j event (g.Q.Question.reply asked.answer)) c.as_slice.ensures.value c.ask-answered.ensures.shows)
    (record {
      kind_is = c.requires.kind;
      basis_is = c.requires.basis;
      out_is = c.ask-answered.ensures.out;
      subject_is = c.ask-answered.ensures.subject;
      edits_are = c.ask-answered.ensures.made;
    })
    c.enter.ensures.copy c.enter.ensures.journal)

pub returns-clause-copy : goal.returns-clause-copy
returns-clause-copy g c =
    let current = c.args.content.now.current.number in
    let event = g.Q.Question.event c.args.question in
    let asked = c.ask-answered.result in
    subst (λ a. LeavesEntry current event (g.Q.Question.reply a) c.enter.result.1) (sym c.enter.ensures.answer)
    (left_copy current event (g.Q.Question.reply asked.answer) c.args.asked asked.out asked.subject asked.made c.enter.result.1
    (record {
      kind_is = c.requires.kind;
      basis_is = c.requires.basis;
      out_is = c.ask-answered.ensures.out;
      subject_is = c.ask-answered.ensures.subject;
      edits_are = c.ask-answered.ensures.made;
    })
    c.enter.ensures.copy)
