-- By the cases of a step: its record was added, none is needed, or none was added.
use Rattle.std.proofs.Common.{Bool, inl, inr, refl, subst}
use Rattle.base_files.specs.declared.refusal.Refusal.TheVariants.{Memory}
use Rattle.history_machine.proofs.JournalSteps.{lacking_kept}
use Rattle.history_machine.specs.Step.{done}
use Rattle.history_machine.specs.declared.event.Event.TheVariants.{Commit}
use Rattle.history_machine.specs.declared.event.Reply.TheVariants.{Refused}
use Rattle.server_journal.specs.Keeping.{IsIntended}
use Rattle.server_journal.proofs.KeptLaws.{asks_no_job, fails_keeps, made_keeps, unneeded_keeps}
use Rattle.server_journal.proofs.keeping.kept_commit.Goals as goal

pub returns-in-Ok-true-clause-step : goal.returns-in-Ok-true-clause-step
returns-in-Ok-true-clause-step g c = inl c.commit_intended.ensures.step

pub returns-in-Ok-true-clause-keeps : goal.returns-in-Ok-true-clause-keeps
returns-in-Ok-true-clause-keeps g c = λ heading limits keeps.
    let before = g.S.Store.holds c.args.kept.now.store in
    let mid = g.S.Store.holds c.intend_commit.new.kept.store in
    let was_lost = c.args.kept.now.is_lost in
    let mid_lost = c.intend_commit.new.kept.is_lost in
    let event = Commit c.args.basis c.args.change in
    made_keeps heading limits before mid (g.S.Store.holds c.commit_intended.new.kept.store) was_lost mid_lost c.commit_intended.new.kept.is_lost
    c.args.kept.now.length c.args.book.now event (done c.commit_intended.result.0) c.commit_intended.result.1 c.commit_intended.new.book
    c.args.kept.now.counted
    (subst (λ (is_added : Bool). IsIntended c.args.book.now event before mid was_lost mid_lost is_added) c.in-Ok-true.field-0-test c.in-Ok-true.ensures.ok)
    c.commit_intended.ensures.step c.commit_intended.ensures.done c.commit_intended.ensures.back keeps

pub returns-in-Ok-false-clause-step : goal.returns-in-Ok-false-clause-step
returns-in-Ok-false-clause-step g c = inl c.commit_on_current.ensures

pub returns-in-Ok-false-clause-keeps : goal.returns-in-Ok-false-clause-keeps
returns-in-Ok-false-clause-keeps g c = λ heading limits keeps.
    let before = g.S.Store.holds c.args.kept.now.store in
    let after = g.S.Store.holds c.intend_commit.new.kept.store in
    let was_lost = c.args.kept.now.is_lost in
    let is_lost = c.intend_commit.new.kept.is_lost in
    let event = Commit c.args.basis c.args.change in
    unneeded_keeps heading limits before after was_lost is_lost c.args.book.now event (done c.commit_on_current.result.0) c.commit_on_current.result.1
    c.commit_on_current.new.self
    (subst (λ (is_added : Bool). IsIntended c.args.book.now event before after was_lost is_lost is_added) c.in-Ok-false.field-0-test c.in-Ok-false.ensures.ok)
    c.commit_on_current.ensures keeps

pub returns-in-Err-Memory-clause-step : goal.returns-in-Err-Memory-clause-step
returns-in-Err-Memory-clause-step g c =
    let event = Commit c.args.basis c.args.change in
    inl (lacking_kept c.args.book.now event (Refused Memory) refl (asks_no_job c.args.book.now.out event refl))

pub returns-in-Err-Memory-clause-keeps : goal.returns-in-Err-Memory-clause-keeps
returns-in-Err-Memory-clause-keeps g c = λ heading limits keeps.
    fails_keeps heading limits _ (g.S.Store.holds c.args.kept.now.store) (g.S.Store.holds c.intend_commit.new.kept.store) c.args.kept.now.is_lost
    c.intend_commit.new.kept.is_lost c.args.book.now c.in-Err-Memory.ensures.err keeps

pub returns-clause-step : goal.returns-clause-step
returns-clause-step g c = inr (refl, refl, refl, refl)

pub returns-clause-keeps : goal.returns-clause-keeps
returns-clause-keeps g c = λ heading limits keeps.
    fails_keeps heading limits c.in-Err.field-0 (g.S.Store.holds c.args.kept.now.store) (g.S.Store.holds c.intend_commit.new.kept.store)
    c.args.kept.now.is_lost c.intend_commit.new.kept.is_lost c.args.book.now c.in-Err.ensures.err keeps
