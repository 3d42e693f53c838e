-- The answers to the goals of `declarations::TypeSpecSpec::parse`.
use Rattle.std.proofs.Common.{sym}
use Rattle.go_parser.specs.Machine.{last}
use Rattle.go_parser.proofs.MachineSteps.{exits, fails_first, fails_later, fails_rule, read_as, read_rule, read_then}
use Rattle.go_parser.proofs.SpelledDeclarations.{type_spec_spelled_as}
use Rattle.go_parser.proofs.FormedParts.{type_spec_formed}
use Rattle.go_parser.proofs.declarations.TypeSpecSpec.parse.Goals as goal

pub returns-in_err-name-clause-exact : goal.returns-in_err-name-clause-exact
returns-in_err-name-clause-exact c = exits _ _ _ _ c.in_err-name.field-0.0 c.from_residual.result c.from_residual.ensures.1
    (fails_rule last (fails_first c.in_err-name.ensures))

pub returns-in_err-body-clause-exact : goal.returns-in_err-body-clause-exact
returns-in_err-body-clause-exact c = exits _ _ _ _ c.in_err-body.field-0.0 c.from_residual-in_err-body.result c.from_residual-in_err-body.ensures.1
    (fails_rule last (fails_later c.in_ok-name.ensures c.in_err-body.ensures.exact))

pub returns-clause-exact : goal.returns-clause-exact
returns-clause-exact c = read_as (read_rule last (read_then c.in_ok-name.ensures c.in_ok-body.ensures.exact)) (sym (type_spec_spelled_as _))

pub returns-clause-formed : goal.returns-clause-formed
returns-clause-formed c = type_spec_formed _ c.in_ok-body.ensures.formed
