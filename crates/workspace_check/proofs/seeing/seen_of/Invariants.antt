-- The invariants of the loops of `seeing::seen_of`.
use Rattle.std.proofs.Common.{take}
use Rattle.std.specs.Prelude.{Contains}
use Rattle.workspace_graph.specs.Graphs.{OfPackage}
use Rattle.workspace_check.proofs.Rising.{StandBefore}
use Rattle.workspace_check.proofs.Sharing.{AreShared}
use Rattle.workspace_check.proofs.seeing.seen_of.Given as goal

abbrev pub invariant-loop-other : goal.invariant-loop-other
invariant-loop-other l = record {
  shared : OfPackage l.graph l.number (λ p. AreShared l.graph p (take l.other-index l.below) l.all l.seen);
  before : StandBefore l.graph (Contains (take l.other-index l.below)) l.seen;
}
