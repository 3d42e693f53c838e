-- The invariants of the loops of `inner_blocks::first_inside`.
use Rattle.std.proofs.Common.{ℕ, ◌<◌, length}
use Rattle.go_scope.specs.Bindings.{SameBlock}
use Rattle.go_scope.specs.Leading.{IsLeadInside}
use Rattle.go_scope.specs.Numbering.{numerals}
use Rattle.go_scope.specs.Table.{layout_of}
use Rattle.go_scope.proofs.Walking.{IsKnown, IsLeft, left_of}
use Rattle.go_scope.proofs.inner_blocks.first_inside.Given as goal

abbrev pub invariant-loop-at : goal.invariant-loop-at
invariant-loop-at l = record {
  left : (e : ℕ) → e < l.d → IsLeadInside (layout_of l.identifiers) (numerals l.names) (numerals l.names l.d) e → SameBlock (layout_of l.identifiers) e l.d →
      IsLeft l.at e;
  known : IsKnown (layout_of l.identifiers) (length l.identifiers) (numerals l.names) (numerals l.names l.d) l.d l.at;
}

abbrev pub decreases-loop-at : goal.decreases-loop-at
decreases-loop-at l = left_of l.at
