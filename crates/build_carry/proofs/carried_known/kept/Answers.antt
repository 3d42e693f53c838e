-- What is shared is what is carried over.
use Rattle.std.proofs.Common.{◌≡◌, sym, subst}
use Rattle.std.proofs.lemmas.Result.{IfOk-weaker}
use Rattle.workspace_check.specs.Found.{KnowsVerdicts}
use Rattle.build_carry.proofs.carried_known.kept.Goals as goal

pub returns : goal.returns
returns c =
    let known = c.in_ok-carried.carried in
    let right = KnowsVerdicts c.args.after.now in
    IfOk-weaker c.new.result (λ shared. shared ≡ known) right (λ shared is. subst right (sym is) c.in_ok-carried.ensures) c.new.ensures

pub kept_verdicts-requires-clause-known : goal.kept_verdicts-requires-clause-known
kept_verdicts-requires-clause-known c = subst (KnowsVerdicts c.args.before.now) (sym c.get.ensures) c.requires.known
