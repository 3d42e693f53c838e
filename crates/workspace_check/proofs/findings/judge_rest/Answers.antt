-- The answers to the goals of `findings::judge_rest`.
use Rattle.std.proofs.Common.{sym, subst}
use Rattle.std.proofs.lemmas.Result.{on_ok_weaker}
use Rattle.workspace_check.specs.Cycles.{DecideCycles}
use Rattle.workspace_check.specs.Steps.{IsBuildOrder}
use Rattle.workspace_check.proofs.Gathering.{all_known, knows_each}
use Rattle.workspace_check.proofs.findings.judge_rest.Goals as goal

pub judge_in-requires : goal.judge_in-requires
judge_in-requires c = record {
  order = subst (IsBuildOrder c.args.graph.now) (sym c.deref-2.ensures.value) c.in_ok-order.ensures;
  cycles = subst (DecideCycles c.args.graph.now) (sym c.deref-3.ensures.value) c.in_ok-cycles.ensures;
  all = c.requires;
}

pub returns-then-knows_all : goal.returns-then-knows_all
returns-then-knows_all c = knows_each c.args.graph.now c.args.all.now c.requires (c.knows_all.ensures c.if-knows_all.true)

pub returns : goal.returns
returns c =
    let w = c.args.graph.now in
    on_ok_weaker c.judge_in.result
    (all_known w c.deref-2.result.now c.judge_in.new.all (subst (IsBuildOrder w) (sym c.deref-2.ensures.value) c.in_ok-order.ensures))
    c.judge_in.ensures
