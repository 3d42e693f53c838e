-- The answers to the goals of `statements::return_values`.
use Rattle.std.proofs.Common.{inl, inr}
use Rattle.std.proofs.Common.{◌∷◌, [], ap, sym, ◌∙◌, false}
use Rattle.go_ast.specs.Grammar.{A, Expressions, ReturnValues}
use Rattle.go_parser.specs.Machine.{first, last, later}
use Rattle.go_ast.specs.View.{exprs_view}
use Rattle.go_parser.proofs.MachineSteps.{read_as, read_end, read_rule, tail_rule}
use Rattle.go_parser.proofs.FormedParts.{if_ok}
use Rattle.go_parser.proofs.SpelledSimple.{exprs_none}
use Rattle.go_parser.proofs.statements.return_values.Goals as goal

pub returns-then-not-begins_expression-clause-exact : goal.returns-then-not-begins_expression-clause-exact
returns-then-not-begins_expression-clause-exact c =
    read_as (read_rule (later (sym c.begins_expression.ensures ∙ c.if-not-begins_expression.true) last) read_end) (sym (exprs_none _ c.new.ensures.items))

pub returns-clause-exact : goal.returns-clause-exact
returns-clause-exact c = tail_rule ReturnValues (A (Expressions false) ∷ []) _ _ _ _ c.exprs.result
    (first (sym c.begins_expression.ensures ∙ c.if-not-begins_expression.false)) c.exprs.ensures.exact

pub returns-then-not-begins_expression-clause-formed : goal.returns-then-not-begins_expression-clause-formed
returns-then-not-begins_expression-clause-formed c = inl (ap exprs_view c.new.ensures.items)

pub returns-clause-formed : goal.returns-clause-formed
returns-clause-formed c = if_ok _ _ c.exprs.result (λ y h. inr h) c.exprs.ensures.formed
