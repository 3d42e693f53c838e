-- All paths differ exactly if those that are left do.
use Rattle.std.proofs.Common.{◌==◌}
use Rattle.std.specs.Cmp.Lexicographic.{pointwise}
use Rattle.history_records.proofs.Sets.{IsDistinctLeft}
use Rattle.history_records.proofs.edit_sets.are_distinct.Given as goal

abbrev pub invariant-loop-i : goal.invariant-loop-i
invariant-loop-i l = IsDistinctLeft (pointwise ◌==◌) l.paths l.i
