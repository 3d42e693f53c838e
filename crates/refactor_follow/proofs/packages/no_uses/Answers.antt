-- The answers to the goals of `packages::no_uses`.
use Rattle.std.proofs.Common.{subst, arith}
use Rattle.refactor_follow.specs.MoveReadings.{HasNoMarks}
use Rattle.refactor_follow.proofs.Readings.{no_uses, one_unmarked}
use Rattle.refactor_follow.proofs.packages.no_uses.Goals as goal

pub loop-number-init : goal.loop-number-init
loop-number-init c = no_uses c.new-uses.result.items c.new-uses.ensures.items

pub loop-number-preserved : goal.loop-number-preserved
loop-number-preserved c =
    one_unmarked c.loop-number._number c.loop-number.uses.items c.push.new.self.items c.new.result c.loop-number.invariant c.in_ok-push.ensures.items
    c.new.ensures.items

pub returns : goal.returns
returns c = subst (λ n. HasNoMarks n c.loop-number.uses.items) (omega arith) c.loop-number.invariant
