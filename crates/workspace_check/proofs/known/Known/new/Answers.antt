-- The answers to the goals of `known::Known::new`.
use Rattle.std.specs.Prelude.{None}
use Rattle.workspace_check.proofs.Telling.{nothing_known}
use Rattle.workspace_check.proofs.known.Known.new.Goals as goal

pub returns-clause-right : goal.returns-clause-right
returns-clause-right c = λ w. nothing_known (record { verdicts = c.new.result; earlier = None }) c.new.ensures.items w
