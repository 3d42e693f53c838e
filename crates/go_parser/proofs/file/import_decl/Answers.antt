-- The answers to the goals of `file::import_decl`. They are worded as those of `file::var_decl`, which also reads a word, a group and
-- a semicolon: an answer speaks of the values of its own function, so none can serve both.
use Rattle.std.proofs.Common.{sym}
use Rattle.go_parser.specs.Machine.{first}
use Rattle.go_parser.proofs.MachineSteps.{exits, fails_first, fails_later, fails_rule, leads_as, leads_here, leads_rule, leads_then}
use Rattle.go_parser.proofs.FormedParts.{imports_formed}
use Rattle.go_parser.proofs.SpelledStatements.{imports_spelled_as}
use Rattle.go_parser.proofs.file.import_decl.Goals as goal

pub returns-in_err-at-clause-exact : goal.returns-in_err-at-clause-exact
returns-in_err-at-clause-exact c = exits _ _ _ _ c.in_err-at.field-0.0 c.from_residual.result c.from_residual.ensures.1
    (fails_rule (first c.requires) (fails_first c.in_err-at.ensures))

pub returns-in_err-group-clause-exact : goal.returns-in_err-group-clause-exact
returns-in_err-group-clause-exact c = exits _ _ _ _ c.in_err-group.field-0.0 c.from_residual-in_err-group.result c.from_residual-in_err-group.ensures.1
    (fails_rule (first c.requires) (fails_later c.in_ok-at.ensures (fails_first c.in_err-group.ensures.exact)))

pub returns-in_err-semicolon-clause-exact : goal.returns-in_err-semicolon-clause-exact
returns-in_err-semicolon-clause-exact c = exits _ _ _ _ c.in_err-semicolon.field-0.0 c.from_residual-in_err-semicolon.result
    c.from_residual-in_err-semicolon.ensures.1
    (fails_rule (first c.requires) (fails_later c.in_ok-at.ensures (fails_later c.in_ok-group.ensures.exact (fails_first c.in_err-semicolon.ensures))))

pub returns-clause-exact : goal.returns-clause-exact
returns-clause-exact c = leads_as (leads_rule (first c.requires)
    (leads_then c.in_ok-at.ensures (leads_then c.in_ok-group.ensures.exact (leads_then c.in_ok-semicolon.ensures leads_here)))) (sym (imports_spelled_as _))

pub returns-clause-formed : goal.returns-clause-formed
returns-clause-formed c = imports_formed _ c.in_ok-group.ensures.formed
