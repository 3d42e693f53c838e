-- The invariants of the loops of `inner_blocks::last_open`.
use Rattle.std.proofs.Common.{length}
use Rattle.go_scope.specs.Numbering.{numerals}
use Rattle.go_scope.specs.OpenBlocks.{IsLastOpen}
use Rattle.go_scope.specs.Table.{layout_of}
use Rattle.go_scope.proofs.Walking.{left_of}
use Rattle.go_scope.proofs.inner_blocks.last_open.Given as goal

abbrev pub invariant-loop-at : goal.invariant-loop-at
invariant-loop-at l = IsLastOpen (layout_of l.identifiers) (length l.identifiers) (numerals l.names) (numerals l.names l.u) l.u l.at

abbrev pub decreases-loop-at : goal.decreases-loop-at
decreases-loop-at l = left_of l.at
