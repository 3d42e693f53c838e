-- The answers to the goals of `declarations::field`.
use Rattle.std.proofs.Common.{◌∷◌, [], sym}
use Rattle.go_ast.specs.Grammar.{A, TypeUse}
use Rattle.go_parser.proofs.MachineSteps.{exits, read_as, fails_after, fails_more}
use Rattle.go_parser.proofs.StatementSteps.{read_on}
use Rattle.go_parser.proofs.SpelledDeclarations.{field_spelled_as}
use Rattle.go_parser.proofs.FormedParts.{field_formed}
use Rattle.go_parser.proofs.declarations.field.Goals as goal

pub returns-in_err-names-clause-exact : goal.returns-in_err-names-clause-exact
returns-in_err-names-clause-exact c = exits _ _ _ _ c.in_err-names.field-0.0 c.from_residual.result c.from_residual.ensures.1
    (fails_more (A TypeUse ∷ []) c.in_err-names.ensures.exact)

pub returns-in_err-field_type-clause-exact : goal.returns-in_err-field_type-clause-exact
returns-in_err-field_type-clause-exact c = exits _ _ _ _ c.in_err-field_type.field-0.0 c.from_residual-in_err-field_type.result
    c.from_residual-in_err-field_type.ensures.1
    (fails_after c.in_ok-names.ensures.exact c.in_err-field_type.ensures)

pub returns-clause-exact : goal.returns-clause-exact
returns-clause-exact c = read_as (read_on c.in_ok-names.ensures.exact c.in_ok-field_type.ensures) (sym (field_spelled_as _))

pub returns-clause-formed : goal.returns-clause-formed
returns-clause-formed c = field_formed _ c.in_ok-names.ensures.formed
