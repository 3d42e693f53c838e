-- The answers to the goals of `seeing::seen`.
use Rattle.std.proofs.Common.{sym, subst}
use Rattle.std.specs.List.Sorted.{IsStrictlyIncreasing}
use Rattle.workspace_graph.specs.Graphs.{ListsPackages}
use Rattle.workspace_check.specs.Verdicts.{BuildsOn}
use Rattle.workspace_check.proofs.seeing.seen.Goals as goal

pub seen_of-requires : goal.seen_of-requires
seen_of-requires c =
    let w = c.args.graph.now in
    record {
      in_range = c.requires.in_range;
      below = λ p at. subst (ListsPackages w (BuildsOn w p)) (sym c.as_slice.ensures) (c.in_ok-below.ensures.below p at);
      rising = subst IsStrictlyIncreasing (sym c.as_slice.ensures) c.in_ok-below.ensures.rising;
      whole = c.requires.whole;
    }
