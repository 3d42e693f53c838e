-- By the cases of a step: its record was added, none is needed, or none was added.
use Rattle.std.proofs.Common.{Bool, inl, inr, refl, subst}
use Rattle.history_machine.proofs.JournalSteps.{lacking_kept}
use Rattle.server_journal.specs.Keeping.{IsIntended}
use Rattle.server_journal.proofs.KeptLaws.{asks_no_job, fails_keeps, made_keeps, unneeded_keeps}
use Rattle.server_journal.proofs.keeping.kept_step.Goals as goal

pub returns-in-Ok-true-clause-step : goal.returns-in-Ok-true-clause-step
returns-in-Ok-true-clause-step g c = inl c.make_intended.ensures.step

pub returns-in-Ok-true-clause-keeps : goal.returns-in-Ok-true-clause-keeps
returns-in-Ok-true-clause-keeps g c = λ heading limits keeps.
    let before = g.S.Store.holds c.args.kept.now.store in
    let mid = g.S.Store.holds c.intend_for.new.kept.store in
    let was_lost = c.args.kept.now.is_lost in
    let mid_lost = c.intend_for.new.kept.is_lost in
    let event = g.Q.Question.event c.args.question in
    made_keeps heading limits before mid (g.S.Store.holds c.make_intended.new.kept.store) was_lost mid_lost c.make_intended.new.kept.is_lost
    c.args.kept.now.length c.args.book.now event (g.Q.Question.reply c.make_intended.result.0) c.make_intended.result.1 c.make_intended.new.book
    c.args.kept.now.counted
    (subst (λ (is_added : Bool). IsIntended c.args.book.now event before mid was_lost mid_lost is_added) c.in-Ok-true.field-0-test c.in-Ok-true.ensures.ok)
    c.make_intended.ensures.step c.make_intended.ensures.done c.make_intended.ensures.back keeps

pub returns-in-Ok-false-clause-step : goal.returns-in-Ok-false-clause-step
returns-in-Ok-false-clause-step g c = inl c.journal_step.ensures

pub returns-in-Ok-false-clause-keeps : goal.returns-in-Ok-false-clause-keeps
returns-in-Ok-false-clause-keeps g c = λ heading limits keeps.
    let before = g.S.Store.holds c.args.kept.now.store in
    let after = g.S.Store.holds c.intend_for.new.kept.store in
    let was_lost = c.args.kept.now.is_lost in
    let is_lost = c.intend_for.new.kept.is_lost in
    let event = g.Q.Question.event c.args.question in
    unneeded_keeps heading limits before after was_lost is_lost c.args.book.now event (g.Q.Question.reply c.journal_step.result.0) c.journal_step.result.1
    c.journal_step.new.self
    (subst (λ (is_added : Bool). IsIntended c.args.book.now event before after was_lost is_lost is_added) c.in-Ok-false.field-0-test c.in-Ok-false.ensures.ok)
    c.journal_step.ensures keeps

pub returns-in-Err-Memory-clause-step : goal.returns-in-Err-Memory-clause-step
returns-in-Err-Memory-clause-step g c =
    let event = g.Q.Question.event c.args.question in
    inl (lacking_kept c.args.book.now event (g.Q.Question.reply c.refuse.result) c.refuse.ensures
    (asks_no_job c.args.book.now.out event c.in-Err-Memory.ensures.asks))

pub returns-in-Err-Memory-clause-keeps : goal.returns-in-Err-Memory-clause-keeps
returns-in-Err-Memory-clause-keeps g c = λ heading limits keeps.
    fails_keeps heading limits _ (g.S.Store.holds c.args.kept.now.store) (g.S.Store.holds c.intend_for.new.kept.store) c.args.kept.now.is_lost
    c.intend_for.new.kept.is_lost c.args.book.now c.in-Err-Memory.ensures.err keeps

pub returns-clause-step : goal.returns-clause-step
returns-clause-step g c = inr (c.refuse-in-Err.ensures, c.in-Err.ensures.asks, refl, refl)

pub returns-clause-keeps : goal.returns-clause-keeps
returns-clause-keeps g c = λ heading limits keeps.
    fails_keeps heading limits c.in-Err.field-0 (g.S.Store.holds c.args.kept.now.store) (g.S.Store.holds c.intend_for.new.kept.store)
    c.args.kept.now.is_lost c.intend_for.new.kept.is_lost c.args.book.now c.in-Err.ensures.err keeps
