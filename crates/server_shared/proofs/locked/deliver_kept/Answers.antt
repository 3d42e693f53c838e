-- A delivery gives a reply that its event may get, keeps the limits, and is no change.
use Rattle.std.proofs.Common.{ap}
use Rattle.base_files.specs.declared.limits.Limits.{Limits}
use Rattle.history_book.specs.Handed.{handed}
use Rattle.history_machine.specs.declared.event.Event.TheVariants.{Deliver}
use Rattle.history_machine.proofs.Replies.{may_reply}
use Rattle.server_shared.specs.LimitNumbers.{limit_numbers}
use Rattle.server_shared.proofs.SeenLaws.{delivery_keeps, some_all}
use Rattle.server_shared.proofs.StepLaws.{keeps_limits}
use Rattle.server_shared.proofs.locked.deliver_kept.Goals as goal

pub returns-clause-keeps : goal.returns-clause-keeps
returns-clause-keeps g c =
    let event = Deliver c.args.job c.args.built in
    let made = c.deliver_on_current in
    some_all c.args._records.now (λ k. delivery_keeps (g.D.Store.holds k.store) k.is_lost c.args.book.now c.args.job c.args.built (handed made.result.0)
    made.result.1 made.new.self made.ensures)

pub returns-clause-kind : goal.returns-clause-kind
returns-clause-kind g c =
    let made = c.deliver_on_current in
    may_reply c.args.book.now (Deliver c.args.job c.args.built) (handed made.result.0) made.new.self made.ensures.0

pub returns-clause-most : goal.returns-clause-most
returns-clause-most g c =
    let made = c.deliver_on_current in
    ap (λ (l : Limits). l.journal) (keeps_limits c.args.book.now (Deliver c.args.job c.args.built) (handed made.result.0) made.new.self made.ensures.0)

pub returns-clause-limits : goal.returns-clause-limits
returns-clause-limits g c =
    let made = c.deliver_on_current in
    ap limit_numbers (keeps_limits c.args.book.now (Deliver c.args.job c.args.built) (handed made.result.0) made.new.self made.ensures.0)

pub returns-clause-all_limits : goal.returns-clause-all_limits
returns-clause-all_limits g c =
    let made = c.deliver_on_current in
    keeps_limits c.args.book.now (Deliver c.args.job c.args.built) (handed made.result.0) made.new.self made.ensures.0
