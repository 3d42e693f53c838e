-- The answers to the goals of `headers::bare_clauses`.
use Rattle.std.proofs.Common.{ap, sym, ◌∙◌}
use Rattle.go_parser.specs.Machine.{first, later}
use Rattle.go_parser.specs.Spelling.{for_spelled}
use Rattle.go_parser.proofs.MachineSteps.{exits, fails_rule, leads_as, leads_rule}
use Rattle.go_parser.proofs.FormedStatements.{clauses_formed}
use Rattle.go_parser.proofs.SpelledStatements.{clauses_spelled}
use Rattle.go_parser.proofs.headers.bare_clauses.Goals as goal

pub returns-in_err-clauses-clause-exact : goal.returns-in_err-clauses-clause-exact
returns-in_err-clauses-clause-exact c = exits _ _ _ _ c.in_err-clauses.field-0.0 c.from_residual.result c.from_residual.ensures.1
    (fails_rule (later c.requires.brace (first c.requires.semicolon)) c.in_err-clauses.ensures.exact)

pub returns-clause-exact : goal.returns-clause-exact
returns-clause-exact c = leads_as (leads_rule (later c.requires.brace (first c.requires.semicolon)) c.in_ok-clauses.ensures.exact)
    (sym (ap for_spelled c.header-bare.ensures ∙ clauses_spelled _ _ _ _ _))

pub returns-clause-formed : goal.returns-clause-formed
returns-clause-formed c = clauses_formed _ _ _ _ _ _ c.header-bare.ensures tt c.in_ok-clauses.ensures.formed.0 c.in_ok-clauses.ensures.formed.1
