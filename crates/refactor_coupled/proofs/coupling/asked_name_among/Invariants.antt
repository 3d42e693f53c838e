-- No definition that was passed asks for the method.
use Rattle.std.proofs.Common.{take}
use Rattle.std.specs.Prelude.{◌≡◌, false}
use Rattle.std.specs.List.{list_any}
use Rattle.refactor_coupled.specs.Reached.{has_asked}
use Rattle.refactor_coupled.proofs.coupling.asked_name_among.Given as goal

abbrev pub invariant-loop-definition : goal.invariant-loop-definition
invariant-loop-definition l = list_any (has_asked l.symbol) (take l.definition-index l.own) ≡ false
