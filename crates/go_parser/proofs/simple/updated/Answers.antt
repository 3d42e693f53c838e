-- The answers to the goals of `simple::updated`.
use Rattle.std.proofs.Common.{sym}
use Rattle.go_parser.specs.Spelling.{expr_spelled}
use Rattle.go_parser.proofs.StatementSteps.{continued}
use Rattle.go_parser.proofs.FormedStatements.{update_formed}
use Rattle.go_parser.proofs.SpelledSimple.{update_spelled}
use Rattle.go_parser.proofs.simple.updated.Goals as goal

pub returns-in-Err-clause-exact : goal.returns-in-Err-clause-exact
returns-in-Err-clause-exact c = c.in-Err.ensures.exact

pub returns-in-Ok-clause-exact : goal.returns-in-Ok-clause-exact
returns-in-Ok-clause-exact c = continued (expr_spelled c.args.left) c.in-Ok.ensures.exact (sym (update_spelled _ _ _ _))

pub returns-in-Ok-clause-formed : goal.returns-in-Ok-clause-formed
returns-in-Ok-clause-formed c = update_formed c.args.setting _ _ _ _ c.requires c.in-Ok.ensures.formed
