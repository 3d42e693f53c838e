-- The answers to the goals of `progress::judge_below`.
use Rattle.std.proofs.Common.{sym, subst}
use Rattle.workspace_check.specs.Cycles.{DecideCycles}
use Rattle.workspace_check.specs.Steps.{IsBuildOrder}
use Rattle.workspace_check.proofs.progress.judge_below.Goals as goal

pub judge_ordered-requires : goal.judge_ordered-requires
judge_ordered-requires c = record {
  order = subst (IsBuildOrder c.args.graph.now) (sym c.deref-2.ensures.value) c.in_ok-order.ensures;
  cycles = subst (DecideCycles c.args.graph.now) (sym c.deref-3.ensures.value) c.in_ok-cycles.ensures;
  below = c.requires.below;
  all = c.requires.all;
}
