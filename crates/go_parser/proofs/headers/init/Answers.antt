-- The answers to the goals of `headers::init`.
use Rattle.std.proofs.Common.{sym, refl}
use Rattle.go_parser.specs.Spelling.{simple_spelled}
use Rattle.go_parser.proofs.MachineSteps.{exits, fails_first}
use Rattle.go_parser.proofs.StatementSteps.{continued, continued_on, fails_continued}
use Rattle.go_parser.proofs.FormedStatements.{init_formed}
use Rattle.go_parser.proofs.SpelledStatements.{init_spelled_as}
use Rattle.go_parser.proofs.headers.init.Goals as goal

pub simple_rest-requires : goal.simple_rest-requires
simple_rest-requires c = c.requires

pub returns-in_err-statement-clause-exact : goal.returns-in_err-statement-clause-exact
returns-in_err-statement-clause-exact c = exits _ _ _ _ c.in_err-statement.field-0.0 c.from_residual.result c.from_residual.ensures.1
    (fails_first c.in_err-statement.ensures.exact)

pub returns-in-Err-clause-exact : goal.returns-in-Err-clause-exact
returns-in-Err-clause-exact c = fails_continued c.in_ok-statement.ensures.exact c.in-Err.ensures

pub returns-in-Ok-clause-exact : goal.returns-in-Ok-clause-exact
returns-in-Ok-clause-exact c = continued_on c.in_ok-statement.ensures.exact
    (continued (simple_spelled c.in_ok-statement.statement) c.in-Ok.ensures (sym (init_spelled_as _)))

pub returns-in-Ok-clause-formed : goal.returns-in-Ok-clause-formed
returns-in-Ok-clause-formed c = init_formed _ _ refl c.in_ok-statement.ensures.formed
