-- The first of the names of interfaces that were passed and turn.
use Rattle.std.proofs.Common.{take}
use Rattle.std.specs.Prelude.{None}
use Rattle.refactor_coupled.specs.FirstTurns.{KeepsFirstOf}
use Rattle.refactor_coupled.proofs.TypeNames.{IsTurnedAmong}
use Rattle.refactor_coupled.proofs.interfaces_turned.first_turned.Given as goal

abbrev pub invariant-loop-named : goal.invariant-loop-named
invariant-loop-named l = KeepsFirstOf (IsTurnedAmong l.workspace l.types l.called.all.items (take l.named-index l.interfaces)) None l.first
