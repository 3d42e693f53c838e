-- No row, one run more, and all rows.
use Rattle.std.proofs.Common.{length, sym, ap, subst}
use Rattle.workspace_graph.specs.Shifts.{Splits}
use Rattle.workspace_graph.proofs.GrownSteps.{grown_none}
use Rattle.workspace_graph.proofs.Shifted.{passed_none}
use Rattle.workspace_graph.proofs.grown.grow.Goals as goal

pub loop-growing-init : goal.loop-growing-init
loop-growing-init c = record {
  passed = subst (Splits c.args.growing.linked.now 0) (sym (ap length c.in_ok-rows.ensures)) (passed_none c.args.growing.linked.now);
  grown = grown_none c.args.growing.place c.args.growing.own.now c.args.growing.linked.now c.args.growing.before.now c.in_ok-rows.rows c.in_ok-rows.ensures;
}
