-- The answers to the goals of `origins::numbers`.
use Rattle.types_members.proofs.Reaching.{own_none, own_next}
use Rattle.types_members.proofs.origins.numbers.Goals as goal

pub loop-number-init : goal.loop-number-init
loop-number-init c = own_none c.new-own.result.items c.new-own.ensures.items

pub loop-number-preserved : goal.loop-number-preserved
loop-number-preserved c = own_next c.loop-number.own.items c.push.new.self.items c.loop-number.number c.in_ok-push.ensures.items c.loop-number.invariant
