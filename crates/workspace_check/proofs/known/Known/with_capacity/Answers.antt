-- The answers to the goals of `known::Known::with_capacity`.
use Rattle.std.specs.Prelude.{None}
use Rattle.workspace_check.proofs.Telling.{nothing_known}
use Rattle.workspace_check.proofs.known.Known.with_capacity.Goals as goal

pub returns-clause-right : goal.returns-clause-right
returns-clause-right c = λ w. nothing_known (record { verdicts = c.in_ok-verdicts.verdicts; earlier = None }) c.in_ok-verdicts.ensures.items w
