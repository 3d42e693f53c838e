-- The answers to the goals of `declarations::ImportSpecSpec::parse`.
use Rattle.std.proofs.Common.{◌∷◌, [], sym}
use Rattle.go_ast.specs.declared.syntax.Kind.TheVariants as kind
use Rattle.go_ast.specs.Grammar.{ImportItem, One, Single, is}
use Rattle.go_parser.specs.Machine.{first, last, later}
use Rattle.go_parser.proofs.MachineSteps.{exits, fails_leads, read_as, read_led}
use Rattle.go_parser.proofs.StatementSteps.{leads_optional}
use Rattle.go_parser.proofs.SpelledDeclarations.{import_spelled_as}
use Rattle.go_parser.proofs.declarations.ImportSpecSpec.parse.Goals as goal

pub returns-in_err-path-clause-exact : goal.returns-in_err-path-clause-exact
returns-in_err-path-clause-exact c = exits _ _ _ _ c.in_err-path.field-0.0 c.from_residual.result c.from_residual.ensures.1
    (fails_leads (leads_optional (Single ImportItem) kind.Name _ (One (is kind.Text) ∷ []) (λ us e. first e) (λ us e. later e last)
    c.separator-name.ensures) c.in_err-path.ensures)

pub returns-clause-exact : goal.returns-clause-exact
returns-clause-exact c = read_as (read_led (leads_optional (Single ImportItem) kind.Name _ (One (is kind.Text) ∷ []) (λ us e. first e)
    (λ us e. later e last) c.separator-name.ensures) c.in_ok-path.ensures) (sym (import_spelled_as _))

pub returns-clause-formed : goal.returns-clause-formed
returns-clause-formed c = tt
