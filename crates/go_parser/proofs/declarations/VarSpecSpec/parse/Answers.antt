-- The answers to the goals of `declarations::VarSpecSpec::parse`.
use Rattle.std.proofs.Common.{◌∷◌, [], sym}
use Rattle.go_ast.specs.Grammar.{A, GlobalValues, TypeUse}
use Rattle.go_parser.specs.Machine.{last}
use Rattle.go_parser.proofs.MachineSteps.{exits, fails_first, fails_later, fails_rule, read_as, read_rule, read_then, fails_after, fails_more}
use Rattle.go_parser.proofs.StatementSteps.{read_on}
use Rattle.go_parser.proofs.SpelledDeclarations.{global_spelled_as}
use Rattle.go_parser.proofs.FormedParts.{global_formed}
use Rattle.go_parser.proofs.declarations.VarSpecSpec.parse.Goals as goal

pub returns-in_err-names-clause-exact : goal.returns-in_err-names-clause-exact
returns-in_err-names-clause-exact c = exits _ _ _ _ c.in_err-names.field-0.0 c.from_residual.result c.from_residual.ensures.1
    (fails_rule last (fails_more (A TypeUse ∷ A GlobalValues ∷ []) c.in_err-names.ensures.exact))

pub returns-in_err-var_type-clause-exact : goal.returns-in_err-var_type-clause-exact
returns-in_err-var_type-clause-exact c = exits _ _ _ _ c.in_err-var_type.field-0.0 c.from_residual-in_err-var_type.result
    c.from_residual-in_err-var_type.ensures.1
    (fails_rule last (fails_after c.in_ok-names.ensures.exact (fails_first c.in_err-var_type.ensures)))

pub returns-in_err-values-clause-exact : goal.returns-in_err-values-clause-exact
returns-in_err-values-clause-exact c = exits _ _ _ _ c.in_err-values.field-0.0 c.from_residual-in_err-values.result c.from_residual-in_err-values.ensures.1
    (fails_rule last (fails_after c.in_ok-names.ensures.exact (fails_later c.in_ok-var_type.ensures c.in_err-values.ensures.exact)))

pub returns-clause-exact : goal.returns-clause-exact
returns-clause-exact c = read_as (read_rule last (read_on c.in_ok-names.ensures.exact (read_then c.in_ok-var_type.ensures c.in_ok-values.ensures.exact)))
    (sym (global_spelled_as _))

pub returns-clause-formed : goal.returns-clause-formed
returns-clause-formed c = global_formed _ c.in_ok-names.ensures.formed c.in_ok-values.ensures.formed
