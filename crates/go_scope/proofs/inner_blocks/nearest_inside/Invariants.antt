-- The invariants of the loops of `inner_blocks::nearest_inside`.
use Rattle.std.proofs.Common.{ℕ, ◌<◌, length}
use Rattle.go_scope.specs.Bindings.{InScope}
use Rattle.go_scope.specs.Leading.{IsLeadInside}
use Rattle.go_scope.specs.Numbering.{numerals}
use Rattle.go_scope.specs.Table.{layout_of}
use Rattle.go_scope.proofs.Walking.{IsKnown, IsLeft, left_of}
use Rattle.go_scope.proofs.inner_blocks.nearest_inside.Given as goal

abbrev pub invariant-loop-at : goal.invariant-loop-at
invariant-loop-at l = record {
  left : (e : ℕ) → e < l.u → IsLeadInside (layout_of l.identifiers) (numerals l.names) (numerals l.names l.u) e → InScope (layout_of l.identifiers) e l.u →
      IsLeft l.at e;
  known : IsKnown (layout_of l.identifiers) (length l.identifiers) (numerals l.names) (numerals l.names l.u) l.u l.at;
}

abbrev pub decreases-loop-at : goal.decreases-loop-at
decreases-loop-at l = left_of l.at
