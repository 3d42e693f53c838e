-- The answers to the goals of `kept_known::kept_known`.
use Rattle.std.proofs.Common.{subst, sym}
use Rattle.std.proofs.lemmas.Result.{IfOk-weaker}
use Rattle.refactor_plan.specs.Decided.{KeepsKnown}
use Rattle.refactor_plan.proofs.KeptBut.{but_homes}
use Rattle.refactor_plan.proofs.kept_known.kept_known.Goals as goal

pub returns : goal.returns
returns c =
    let w = c.args.graph.now in
    let set = c.args.set.now in
    let known = c.args.known.now in
    IfOk-weaker c.known_but.result _ (KeepsKnown w set c.args.is_hidden known)
    (λ rest h. subst (λ b. KeepsKnown w set b known rest) (sym c.if-is_hidden.false)
    (but_homes w set c.in_ok-homes.homes.items c.deref.result.now c.deref.ensures.value c.in_ok-homes.ensures known rest h)) c.known_but.ensures
