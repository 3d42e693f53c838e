-- The answers to the goals of `origins::origins`.
use Rattle.types_members.proofs.Reaching.{origins_own}
use Rattle.types_members.proofs.origins.origins.Goals as goal

pub loop-link-init : goal.loop-link-init
loop-link-init c = origins_own c.args.links.now c.in_ok-origins.origins.items c.in_ok-origins.ensures.size c.in_ok-origins.ensures.own
