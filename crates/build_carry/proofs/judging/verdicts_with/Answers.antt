-- The closure is that of the package.
use Rattle.std.proofs.Common.{sym, subst}
use Rattle.std.specs.List.Sorted.{IsStrictlyIncreasing}
use Rattle.workspace_graph.specs.Graphs.{ListsPackages}
use Rattle.workspace_graph.specs.Packages.{IsInClosure}
use Rattle.build_carry.proofs.judging.verdicts_with.Goals as goal

pub before-requires : goal.before-requires
before-requires c =
    let w = c.args.graph.now in
    record {
      in_range = c.requires.in_range;
      closure = λ p at. subst (ListsPackages w (IsInClosure w p)) (sym c.as_slice.ensures) (c.in_ok-closure.ensures.closure p at);
      rising = subst IsStrictlyIncreasing (sym c.as_slice.ensures) c.in_ok-closure.ensures.rising;
      known = c.requires.known;
    }

pub finish-requires : goal.finish-requires
finish-requires c =
    record { in_range = c.requires.in_range; right = c.in_ok-progress.ensures.right; known = c.requires.known }
