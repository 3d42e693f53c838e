-- The invariants of the loops of `string_values::interpreted_value`.
use Rattle.std.proofs.Common.{◌-◌, length}
use Rattle.go_scanner.proofs.StringValueLemmas.{ValueSoFar}
use Rattle.go_scanner.proofs.string_values.interpreted_value.Given as goal

abbrev pub invariant-loop-value : goal.invariant-loop-value
invariant-loop-value l = ValueSoFar l.literal l.n l.value.items

abbrev pub decreases-loop-value : goal.decreases-loop-value
decreases-loop-value l = length l.literal - l.n
