-- The answers to the goals of `gathered::all_known_verdicts`.
use Rattle.workspace_check.proofs.Telling.{nothing_told, told_next}
use Rattle.workspace_check.proofs.gathered.all_known_verdicts.Goals as goal

pub loop-number-init : goal.loop-number-init
loop-number-init c = nothing_told c.in_ok-all.all c.in_ok-all.ensures.nothing c.args.graph.now

pub loop-number-preserved : goal.loop-number-preserved
loop-number-preserved c =
    told_next c.args.graph.now c.loop-number.number c.loop-number.all c.push.new.self c.in_ok-verdict.verdict c.in_ok-push.ensures c.loop-number.invariant
    c.in_ok-verdict.ensures

pub returns : goal.returns
returns c = c.loop-number.invariant.verdicts
