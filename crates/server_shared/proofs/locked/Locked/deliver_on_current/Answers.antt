-- The past goes on with the delivery, which keeps the files.
use Rattle.std.proofs.Common.{inl, rules}
use Rattle.history_book.specs.Handed.{handed}
use Rattle.history_machine.specs.declared.event.Event.TheVariants.{Deliver}
use Rattle.server_shared.proofs.SettlingLaws.{past_kept}
use Rattle.server_shared.proofs.SeenLaws.{delivery_stays}
use Rattle.server_shared.proofs.StepLaws.{stepped_with, stepped_without}
use Rattle.server_shared.proofs.locked.Locked.deliver_on_current.Goals as goal

pub invariant_of-self-clause-past : goal.invariant_of-self-clause-past
invariant_of-self-clause-past g c =
    let stepped = c.deliver_kept-answer in
    past_kept g.L.Opening.accounts g.L.Opening.begun g.L.Opening.from c.args.self.now.from c.args.self.now.book (Deliver c.args.job c.args.built)
    (handed stepped.result.0) stepped.result.1 stepped.new.book stepped.ensures.all_limits (inl stepped.ensures.step) c.args.self.now.past

pub invariant_of-self-in-Some-clause-past : goal.invariant_of-self-in-Some-clause-past
invariant_of-self-in-Some-clause-past g c =
    let stepped = c.deliver_kept-answer in
    past_kept g.L.Opening.accounts g.L.Opening.begun g.L.Opening.from c.args.self.now.from c.args.self.now.book (Deliver c.args.job c.args.built)
    (handed stepped.result.0) stepped.result.1 stepped.new.book stepped.ensures.all_limits (inl stepped.ensures.step) c.args.self.now.past

pub invariant_of-self-clause-seen : goal.invariant_of-self-clause-seen
invariant_of-self-clause-seen g c =
    let stepped = c.deliver_kept-answer in
    delivery_stays c.args.self.now.files_log.seen _ c.args.self.now.book c.args.job c.args.built (handed stepped.result.0) stepped.result.1
    stepped.new.book stepped.ensures.step c.args.self.now.seen

pub invariant_of-self-in-Some-clause-seen : goal.invariant_of-self-in-Some-clause-seen
invariant_of-self-in-Some-clause-seen g c =
    let stepped = c.deliver_kept-answer in
    delivery_stays c.args.self.now.files_log.seen _ c.args.self.now.book c.args.job c.args.built (handed stepped.result.0) stepped.result.1
    stepped.new.book stepped.ensures.step c.args.self.now.seen

pub returns-in-None-clause-step : goal.returns-in-None-clause-step
returns-in-None-clause-step g c =
    let stepped = c.deliver_kept-answer in
    stepped_without g.L.Opening.most c.args.self.now.book (Deliver c.args.job c.args.built) (handed stepped.result.0) stepped.result.1 stepped.new.book
    c.args.self.now.most_is c.journal.ensures.reached c.in-None.is stepped.ensures.step

pub returns-after-is_news-clause-step : goal.returns-after-is_news-clause-step
returns-after-is_news-clause-step g c =
    let stepped = c.deliver_kept-answer in
    stepped_with g.L.Opening.most c.args.self.now.book (Deliver c.args.job c.args.built) (handed stepped.result.0) stepped.result.1 _ stepped.new.book
    c.args.self.now.most_is c.journal.ensures.reached c.in-Some.is (search rules) stepped.ensures.step
