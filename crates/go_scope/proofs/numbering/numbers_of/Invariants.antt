-- The invariants of the loops of `numbering::numbers_of`.
use Rattle.std.proofs.Common.{ℕ, ◌≡◌, ◌+◌, ◌<◌, ◌≤◌, length}
use Rattle.std.specs.Prelude.{slice_index_or}
use Rattle.go_scope.specs.Numbering.{AreFirsts, HasName, IsLexical}
use Rattle.go_scope.specs.Table.{layout_of, names_of, IsFirstOf}
use Rattle.go_scope.proofs.numbering.numbers_of.Given as goal

abbrev pub invariant-loop-u : goal.invariant-loop-u
invariant-loop-u l = record {
  firsts : AreFirsts (layout_of l.identifiers) (names_of l.identifiers) l.u l.firsts;
  sized : length l.numbers.items ≡ l.u;
  each : (d x : ℕ) → d < l.u → IsLexical (layout_of l.identifiers) d →
      IsFirstOf (HasName (layout_of l.identifiers) (names_of l.identifiers) (names_of l.identifiers d)) (d + 1) (slice_index_or l.numbers.items d x);
  below : (d x : ℕ) → d < l.u → slice_index_or l.numbers.items d x ≤ d;
}
