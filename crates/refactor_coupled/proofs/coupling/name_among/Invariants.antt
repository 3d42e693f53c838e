-- No definition that was passed has the declaration.
use Rattle.std.proofs.Common.{take}
use Rattle.std.specs.Prelude.{◌≡◌, false}
use Rattle.std.specs.List.{list_any}
use Rattle.refactor_coupled.specs.Reached.{has_declaration}
use Rattle.refactor_coupled.proofs.coupling.name_among.Given as goal

abbrev pub invariant-loop-definition : goal.invariant-loop-definition
invariant-loop-definition l = list_any (has_declaration l.declaration) (take l.definition-index l.own) ≡ false
