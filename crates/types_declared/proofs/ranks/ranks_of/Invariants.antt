-- The invariants of the loops of `ranks::ranks_of`.
use Rattle.std.proofs.Common.{length}
use Rattle.go_scope.specs.Packages.{layout_in}
use Rattle.types_declared.proofs.Ranking.{AreRanksBelow}
use Rattle.types_declared.proofs.ranks.ranks_of.Given as goal

abbrev pub invariant-loop-rank : goal.invariant-loop-rank
invariant-loop-rank l = AreRanksBelow l.places (layout_in l.table) (length l.table.sites) l.rank l.ranks.items
