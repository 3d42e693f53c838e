-- The answers to the goals of `findings::judge_one`.
use Rattle.std.proofs.lemmas.Result.{IfOk-weaker}
use Rattle.workspace_check.proofs.findings.judge_one.Goals as goal

pub returns : goal.returns
returns c =
    IfOk-weaker c.enter_judged.result _ _
    (λ f h p at. h c.args.graph.now p (c.requires.path p at) c.requires.whole (c.requires.fresh p at) (c.in_ok-judged.ensures p at))
    c.enter_judged.ensures
