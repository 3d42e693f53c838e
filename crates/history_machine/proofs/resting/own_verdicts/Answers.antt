-- One package further.
use Rattle.std.proofs.Common.{◌≡◌, sym, subst}
use Rattle.std.proofs.lemmas.Result.{IfOk-weaker}
use Rattle.workspace_check.specs.Found.{KnowsVerdicts}
use Rattle.workspace_check.proofs.Telling.{nothing_told, told_next}
use Rattle.history_machine.proofs.resting.own_verdicts.Goals as goal

pub loop-number-init : goal.loop-number-init
loop-number-init c = nothing_told c.in_ok-own.own c.in_ok-own.ensures.nothing c.args.files.now

pub loop-number-preserved : goal.loop-number-preserved
loop-number-preserved c =
    told_next c.args.files.now c.loop-number.number c.loop-number.own c.push.new.self c.in_ok-verdict.verdict c.in_ok-push.ensures
    c.loop-number.invariant c.in_ok-verdict.ensures

pub returns : goal.returns
returns c = IfOk-weaker c.new.result (λ shared. shared ≡ c.loop-number.own) (KnowsVerdicts c.args.files.now)
    (λ shared is. subst (KnowsVerdicts c.args.files.now) (sym is) c.loop-number.invariant.verdicts) c.new.ensures
