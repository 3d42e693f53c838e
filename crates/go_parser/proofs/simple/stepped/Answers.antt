-- The answers to the goals of `simple::stepped`.
use Rattle.std.proofs.Common.{sym}
use Rattle.go_parser.specs.Spelling.{expr_spelled}
use Rattle.go_parser.proofs.StatementSteps.{continued}
use Rattle.go_parser.proofs.FormedStatements.{step_formed}
use Rattle.go_parser.proofs.SpelledSimple.{step_spelled}
use Rattle.go_parser.proofs.simple.stepped.Goals as goal

pub returns-in-Err-clause-exact : goal.returns-in-Err-clause-exact
returns-in-Err-clause-exact c = c.in-Err.ensures

pub returns-in-Ok-clause-exact : goal.returns-in-Ok-clause-exact
returns-in-Ok-clause-exact c = continued (expr_spelled c.args.operand) c.in-Ok.ensures (sym (step_spelled _ _ _))

pub returns-in-Ok-clause-formed : goal.returns-in-Ok-clause-formed
returns-in-Ok-clause-formed c = step_formed c.args.setting _ _ _ c.requires
