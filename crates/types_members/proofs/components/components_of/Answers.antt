-- The answers to the goals of `components::components_of`.
use Rattle.std.proofs.Common.{subst}
use Rattle.types_members.specs.Cycles.{NeverRises}
use Rattle.types_members.proofs.Reaching.{searches}
use Rattle.types_members.proofs.components.components_of.Goals as goal

pub returns : goal.returns
returns c =
    searches c.args.links.now c.args.back.now c.in_ok-along.along.turns.items c.in_ok-origins.origins.items c.in_ok-ends.ends.items c.falls-falling.result
    (λ t. subst (NeverRises c.args.links.now) c.deref-3.ensures.value (c.falls-falling.ensures t)) c.requires c.in_ok-origins.ensures c.in_ok-ends.ensures
