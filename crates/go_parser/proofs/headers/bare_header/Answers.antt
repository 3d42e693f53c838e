-- The answers to the goals of `headers::bare_header`.
use Rattle.std.proofs.Common.{◌∷◌, ◌++◌, ap, sym, ◌∙◌, refl, append-nil}
use Rattle.go_ast.specs.declared.syntax.Kind.TheVariants as kind
use Rattle.go_parser.specs.Machine.{first}
use Rattle.go_ast.specs.Flatten.{sign}
use Rattle.go_parser.specs.Spelling.{expr_spelled}
use Rattle.go_parser.proofs.MachineSteps.{exits, fails_first, fails_later, fails_rule, leads_as, leads_here, leads_rule, leads_then}
use Rattle.go_parser.proofs.FormedStatements.{bare_init_formed}
use Rattle.go_parser.proofs.SpelledStatements.{init_spelled_as}
use Rattle.go_parser.proofs.headers.bare_header.Goals as goal

pub returns-in_err-semicolon-clause-exact : goal.returns-in_err-semicolon-clause-exact
returns-in_err-semicolon-clause-exact c = exits _ _ _ _ c.in_err-semicolon.field-0.0 c.from_residual.result c.from_residual.ensures.1
    (fails_rule (first c.requires) (fails_first c.in_err-semicolon.ensures))

pub returns-in_err-condition-clause-exact : goal.returns-in_err-condition-clause-exact
returns-in_err-condition-clause-exact c = exits _ _ _ _ c.in_err-condition.field-0.0 c.from_residual-in_err-condition.result
    c.from_residual-in_err-condition.ensures.1
    (fails_rule (first c.requires) (fails_later c.in_ok-semicolon.ensures (fails_first c.in_err-condition.ensures.exact)))

pub returns-clause-exact : goal.returns-clause-exact
returns-clause-exact c = leads_as (leads_rule (first c.requires) (leads_then c.in_ok-semicolon.ensures (leads_then c.in_ok-condition.ensures.exact leads_here)))
    (ap (λ x. sign kind.Semicolon c.in_ok-semicolon.semicolon ∷ x) (append-nil (expr_spelled c.in_ok-condition.condition)) ∙
    ap (λ x. x ++ expr_spelled c.in_ok-condition.condition) (sym (init_spelled_as _)))

pub returns-clause-formed : goal.returns-clause-formed
returns-clause-formed c = (bare_init_formed _ refl, c.in_ok-condition.ensures.formed)
