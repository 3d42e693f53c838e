-- The answers to the goals of `bindings::change_called`.
use Rattle.std.proofs.Common.{sym, subst}
use Rattle.std.specs.Prelude.{None}
use Rattle.std.proofs.lemmas.Result.{IfOk-weaker}
use Rattle.refactor_plan.specs.Decided.{TellsImplementing, TellsUnder}
use Rattle.refactor_plan.proofs.FirstObstacles.{change_told, name_not_missed}
use Rattle.refactor_plan.proofs.bindings.change_called.Goals as goal

pub returns-in-None : goal.returns-in-None
returns-in-None c =
    name_not_missed c.args.workspace.now c.has_no_faults.ensures c.args.renaming.now c.args.called c.requires c.in-None.is None

pub returns-in-Some : goal.returns-in-Some
returns-in-Some c =
    let w = c.args.workspace.now in
    let r = c.args.renaming.now in
    IfOk-weaker c.change_under.result (TellsUnder w r c.in-Some.old.now) (TellsImplementing w r)
    (λ told h. subst (TellsImplementing w r) (sym h.is_told)
    (change_told w c.has_no_faults.ensures r c.args.called c.requires c.in-Some.old c.in-Some.is h.found h.first)) c.change_under.ensures
