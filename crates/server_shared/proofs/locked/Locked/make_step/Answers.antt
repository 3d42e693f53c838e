-- The past goes on with the step, and the receipt is that of its entry. Without an entry the event is turned away, or its change could not be
-- kept.
use Rattle.std.proofs.Common.{rules}
use Rattle.server_shared.proofs.SettlingLaws.{past_kept}
use Rattle.server_shared.proofs.StepLaws.{kept_with, kept_without}
use Rattle.server_shared.proofs.SeenLaws.{seen_with, seen_without}
use Rattle.server_shared.proofs.locked.Locked.make_step.Goals as goal

pub invariant_of-self-clause-past : goal.invariant_of-self-clause-past
invariant_of-self-clause-past g c =
    let stepped = c.step_kept-answer in
    past_kept g.L.Opening.accounts g.L.Opening.begun g.L.Opening.from c.args.self.now.from c.args.self.now.book (g.Q.Question.event c.args.question)
    (g.Q.Question.reply stepped.result.0) stepped.result.1 stepped.new.book stepped.ensures.all_limits stepped.ensures.step c.args.self.now.past

pub invariant_of-self-in-Some-clause-past : goal.invariant_of-self-in-Some-clause-past
invariant_of-self-in-Some-clause-past g c =
    let stepped = c.step_kept-answer in
    past_kept g.L.Opening.accounts g.L.Opening.begun g.L.Opening.from c.args.self.now.from c.args.self.now.book (g.Q.Question.event c.args.question)
    (g.Q.Question.reply stepped.result.0) stepped.result.1 stepped.new.book stepped.ensures.all_limits stepped.ensures.step c.args.self.now.past

pub returns-in-None-clause-step : goal.returns-in-None-clause-step
returns-in-None-clause-step g c =
    let stepped = c.step_kept-answer in
    kept_without c.args.self.now.book (g.Q.Question.event c.args.question) (g.Q.Question.reply stepped.result.0) stepped.new.book c.journal.ensures.reached
    c.args.self.now.records stepped.result.1 c.in-None.is stepped.ensures.step stepped.ensures.plain

pub returns-after-is_news-clause-step : goal.returns-after-is_news-clause-step
returns-after-is_news-clause-step g c =
    let stepped = c.step_kept-answer in
    kept_with c.args.self.now.book (g.Q.Question.event c.args.question) (g.Q.Question.reply stepped.result.0) stepped.new.book c.journal.ensures.reached
    c.args.self.now.records stepped.result.1 _ c.in-Some.is (search rules) stepped.ensures.step stepped.ensures.plain

-- ---- the log of files

pub invariant_of-self-clause-seen : goal.invariant_of-self-clause-seen
invariant_of-self-clause-seen g c =
    let stepped = c.step_kept-answer in
    seen_without c.args.self.now.files_log.seen _ c.args.self.now.book (g.Q.Question.event c.args.question) (g.Q.Question.reply stepped.result.0)
    stepped.result.1 stepped.new.book c.in-None.is stepped.ensures.step c.args.self.now.seen

pub invariant_of-self-in-Some-clause-seen : goal.invariant_of-self-in-Some-clause-seen
invariant_of-self-in-Some-clause-seen g c =
    let stepped = c.step_kept-answer in
    seen_with c.args.self.now.files_log.seen _ _ _ c.args.self.now.book (g.Q.Question.event c.args.question) (g.Q.Question.reply stepped.result.0)
    stepped.result.1 c.in-Some.entry stepped.new.book c.in-Some.is stepped.ensures.step c.args.self.now.seen c.pass.ensures.seen c.pass.ensures.stays
