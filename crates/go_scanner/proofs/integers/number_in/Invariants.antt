-- The invariants of the loops of `integers::number_in`.
use Rattle.std.proofs.Common.{◌≡◌, ◌<◌, ◌^◌, drop}
use Rattle.go_scanner.proofs.ValueLemmas.{number_from}
use Rattle.go_scanner.proofs.integers.number_in.Given as goal

abbrev pub invariant-loop-byte : goal.invariant-loop-byte
invariant-loop-byte l = record { rest : number_from l.base l.number (drop l.byte-index l.bytes) ≡ number_from l.base 0 l.bytes; small : l.number < 2 ^ 63 }
