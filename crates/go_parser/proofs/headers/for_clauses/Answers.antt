-- The answers to the goals of `headers::for_clauses`.
use Rattle.std.proofs.Common.{◌∷◌, []}
use Rattle.go_ast.specs.declared.syntax.Kind.TheVariants as kind
use Rattle.go_ast.specs.Grammar.{A, Block, ForPost, One, is}
use Rattle.go_parser.specs.Machine.{last}
use Rattle.go_parser.proofs.MachineSteps.{exits, fails_rule, leads_on, leads_rule, fails_after, fails_more}
use Rattle.go_parser.proofs.StatementSteps.{leads_read}
use Rattle.go_parser.proofs.headers.for_clauses.Goals as goal

pub returns-in_err-first-clause-exact : goal.returns-in_err-first-clause-exact
returns-in_err-first-clause-exact c = exits _ _ _ _ c.in_err-first.field-0.0 c.from_residual.result c.from_residual.ensures.1
    (fails_rule last (fails_more (One (is kind.Semicolon) ∷ A ForPost ∷ A Block ∷ []) c.in_err-first.ensures.exact))

pub returns-in-Err-clause-exact : goal.returns-in-Err-clause-exact
returns-in-Err-clause-exact c = fails_rule last (fails_after c.in_ok-first.ensures.exact (fails_more (A Block ∷ []) c.in-Err.ensures.exact))

pub returns-in-Ok-clause-exact : goal.returns-in-Ok-clause-exact
returns-in-Ok-clause-exact c = leads_rule last (leads_on (leads_read (One (is kind.Semicolon) ∷ A ForPost ∷ A Block ∷ []) c.in_ok-first.ensures.exact)
    (leads_read (A Block ∷ []) c.in-Ok.ensures.exact))

pub returns-in-Ok-clause-formed : goal.returns-in-Ok-clause-formed
returns-in-Ok-clause-formed c = (c.in_ok-first.ensures.formed, c.in-Ok.ensures.formed)
