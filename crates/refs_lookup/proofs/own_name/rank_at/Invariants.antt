-- The invariants of the loops of `own_name::rank_at`.
use Rattle.std.proofs.Common.{ℕ, ◌≡◌, ◌<◌}
use Rattle.std.specs.Prelude.{Some, None, slice_index_or}
use Rattle.refs_lookup.proofs.own_name.rank_at.Given as goal

abbrev pub invariant-loop-rank : goal.invariant-loop-rank
invariant-loop-rank l = (r : ℕ) → r < l.rank → slice_index_or l.places r None ≡ Some l.at → ⊥
