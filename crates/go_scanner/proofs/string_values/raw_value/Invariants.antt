-- The invariants of the loops of `string_values::raw_value`.
use Rattle.std.proofs.Common.{◌≡◌, take}
use Rattle.go_scanner.specs.StringValues.{raw_value}
use Rattle.go_scanner.proofs.string_values.raw_value.Given as goal

abbrev pub invariant-loop-byte : goal.invariant-loop-byte
invariant-loop-byte l = l.value.items ≡ raw_value (take l.byte-index l.body)
