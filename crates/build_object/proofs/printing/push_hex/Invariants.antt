-- The invariants of the loops of `printing::push_hex`.
use Rattle.std.proofs.Common.{◌≡◌, ◌++◌, drop}
use Rattle.std.specs.List.{flat_map}
use Rattle.build_object.specs.Text.{hex_byte}
use Rattle.build_object.proofs.printing.push_hex.Given as goal

abbrev pub invariant-loop-byte : goal.invariant-loop-byte
invariant-loop-byte l = l.text.items ++ flat_map hex_byte (drop l.byte-index l.bytes) ≡ l.initial.text.items ++ flat_map hex_byte l.bytes
