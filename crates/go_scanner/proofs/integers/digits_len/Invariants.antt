-- The invariants of the loops of `integers::digits_len`.
use Rattle.std.proofs.Common.{◌≡◌, ◌≤◌, ◌+◌, ◌-◌, length, drop}
use Rattle.go_scanner.specs.Lengths.{digits_len}
use Rattle.go_scanner.proofs.integers.digits_len.Given as goal

abbrev pub invariant-loop-base : goal.invariant-loop-base
invariant-loop-base l = record { fits : l.n ≤ length l.bytes; rest : l.n + digits_len l.base (drop l.n l.bytes) ≡ digits_len l.base l.bytes }

abbrev pub decreases-loop-base : goal.decreases-loop-base
decreases-loop-base l = length l.bytes - l.n
