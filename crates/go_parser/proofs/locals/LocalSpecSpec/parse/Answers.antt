-- The answers to the goals of `locals::LocalSpecSpec::parse`.
use Rattle.std.proofs.Common.{◌∷◌, [], sym}
use Rattle.go_ast.specs.Grammar.{A, LocalRest}
use Rattle.go_parser.specs.Machine.{last}
use Rattle.go_parser.proofs.MachineSteps.{exits, fails_rule, read_as, read_rule, fails_after, fails_more}
use Rattle.go_parser.proofs.StatementSteps.{read_on}
use Rattle.go_parser.proofs.FormedParts.{local_formed}
use Rattle.go_parser.proofs.SpelledSimple.{local_spelled_as}
use Rattle.go_parser.proofs.locals.LocalSpecSpec.parse.Goals as goal

pub returns-in_err-names-clause-exact : goal.returns-in_err-names-clause-exact
returns-in_err-names-clause-exact c = exits _ _ _ _ c.in_err-names.field-0.0 c.from_residual.result c.from_residual.ensures.1
    (fails_rule last (fails_more (A LocalRest ∷ []) c.in_err-names.ensures.exact))

pub returns-in_err-local_type-clause-exact : goal.returns-in_err-local_type-clause-exact
returns-in_err-local_type-clause-exact c = exits _ _ _ _ c.in_err-local_type.field-0.0 c.from_residual-in_err-local_type.result
    c.from_residual-in_err-local_type.ensures.1
    (fails_rule last (fails_after c.in_ok-names.ensures.exact c.in_err-local_type.ensures.exact))

pub returns-clause-exact : goal.returns-clause-exact
returns-clause-exact c = read_as (read_rule last (read_on c.in_ok-names.ensures.exact c.in_ok-local_type.ensures.exact)) (sym (local_spelled_as _))

pub returns-clause-formed : goal.returns-clause-formed
returns-clause-formed c = local_formed _ c.in_ok-names.ensures.formed c.in_ok-local_type.ensures.formed
