-- The invariants of the loops of `known_units::all_names`.
use Rattle.std.proofs.Common.{◌≡◌, ◌++◌, take}
use Rattle.build_kept.proofs.known_units.all_names.Given as goal

abbrev pub invariant-loop-first : goal.invariant-loop-first
invariant-loop-first l = l.names.items ≡ take l.first-index l.earlier

abbrev pub invariant-loop-second : goal.invariant-loop-second
invariant-loop-second l = l.names.items ≡ l.earlier ++ take l.second-index l.later
