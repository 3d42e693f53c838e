-- One package further.
use Rattle.workspace_check.proofs.Telling.{nothing_told, told_next}
use Rattle.build_carry.proofs.carried_verdicts.verdicts_after.Goals as goal

pub loop-number-init : goal.loop-number-init
loop-number-init c = nothing_told c.in_ok-carried.carried c.in_ok-carried.ensures.nothing c.args.after.now

pub loop-number-preserved : goal.loop-number-preserved
loop-number-preserved c =
    told_next c.args.after.now c.loop-number.number c.loop-number.carried c.push.new.self c.in_ok-verdict.verdict c.in_ok-push.ensures
    c.loop-number.invariant c.in_ok-verdict.ensures.right

pub returns : goal.returns
returns c = c.loop-number.invariant.verdicts
