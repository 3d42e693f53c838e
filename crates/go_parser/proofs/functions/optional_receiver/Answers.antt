-- The answers to the goals of `functions::optional_receiver`.
use Rattle.std.proofs.Common.{◌∷◌, [], sym, ◌∙◌}
use Rattle.go_ast.specs.declared.syntax.Kind.TheVariants as kind
use Rattle.go_ast.specs.Grammar.{A, One, Signature, is}
use Rattle.go_parser.specs.Machine.{first, last, later}
use Rattle.go_parser.proofs.MachineSteps.{exits, fails_rule, leads_here, leads_rule, fails_more}
use Rattle.go_parser.proofs.StatementSteps.{leads_read}
use Rattle.go_parser.proofs.functions.optional_receiver.Goals as goal

pub returns-then-not-at : goal.returns-then-not-at
returns-then-not-at c = leads_rule (later (sym c.at.ensures ∙ c.if-not-at.true) last) leads_here

pub returns-in_err-receiver : goal.returns-in_err-receiver
returns-in_err-receiver c = exits _ _ _ _ c.in_err-receiver.field-0.0 c.from_residual.result c.from_residual.ensures.1
    (fails_rule (first (sym c.at.ensures ∙ c.if-not-at.false)) (fails_more (One (is kind.Name) ∷ A Signature ∷ []) c.in_err-receiver.ensures))

pub returns : goal.returns
returns c = leads_rule (first (sym c.at.ensures ∙ c.if-not-at.false)) (leads_read (One (is kind.Name) ∷ A Signature ∷ []) c.in_ok-receiver.ensures)
