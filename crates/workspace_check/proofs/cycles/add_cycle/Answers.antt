-- The answers to the goals of `cycles::add_cycle`.
use Rattle.std.proofs.Common.{sym, subst}
use Rattle.workspace_graph.specs.Graphs.{ListsPackages}
use Rattle.workspace_graph.specs.Packages.{IsInClosure}
use Rattle.workspace_graph.specs.Reaching.{AreBackMarks}
use Rattle.workspace_check.proofs.cycles.add_cycle.Goals as goal

pub give_number-requires : goal.give_number-requires
give_number-requires c =
    let w = c.args.graph.now in
    record {
      in_range = c.requires.in_range;
      closure = λ p at. subst (ListsPackages w (IsInClosure w p)) (sym c.as_slice.ensures) (c.in_ok-closure.ensures.closure p at);
      back = λ p at. subst (AreBackMarks w p) (sym c.deref.ensures.value) (c.in_ok-back.ensures p at);
      right = c.requires.right;
    }
