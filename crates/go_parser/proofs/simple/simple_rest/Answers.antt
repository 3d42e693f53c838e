-- The answers to the goals of `simple::simple_rest`.
use Rattle.std.proofs.Common.{◌∷◌, [], sym, ◌∙◌}
use Rattle.go_ast.specs.declared.syntax.Kind.TheVariants as kind
use Rattle.go_ast.specs.Grammar.{A, Expression, Expressions, One, in_head, is, is_step, is_update, may_set}
use Rattle.go_parser.specs.Machine.{first, last, later}
use Rattle.go_parser.specs.Spelling.{expr_spelled}
use Rattle.go_parser.specs.TokenClasses.{setting_of}
use Rattle.go_parser.proofs.MachineSteps.{read_end, read_rule}
use Rattle.go_parser.proofs.StatementSteps.{continued, continues_rule}
use Rattle.go_parser.proofs.FormedStatements.{alone_formed}
use Rattle.go_parser.proofs.SpelledSimple.{alone_spelled}
use Rattle.std.proofs.Common.{append-nil}
use Rattle.go_parser.proofs.simple.simple_rest.Goals as goal

pub returns-then-at_step-clause-exact : goal.returns-then-at_step-clause-exact
returns-then-at_step-clause-exact c = continues_rule _ (One is_step ∷ []) _ _ _ _ _ c.stepped.result (first (sym c.at_step.ensures ∙ c.if-at_step.true))
    c.stepped.ensures.exact

pub stepped-requires : goal.stepped-requires
stepped-requires c = c.requires

pub returns-then-at_update-clause-exact : goal.returns-then-at_update-clause-exact
returns-then-at_update-clause-exact c = continues_rule _ (One is_update ∷ A (Expression (in_head (setting_of c.args.setting))) ∷ []) _ _ _ _ _
    c.updated.result (later (sym c.at_step.ensures ∙ c.if-at_step.false) (first (sym c.at_update.ensures ∙ c.if-at_update.true))) c.updated.ensures.exact

pub returns-then-at_set-clause-exact : goal.returns-then-at_set-clause-exact
returns-then-at_set-clause-exact c = continues_rule _ (One (may_set (setting_of c.args.setting)) ∷ A (Expressions (in_head (setting_of c.args.setting))) ∷ [])
    _ _ _ _ _ c.one_set.result (later (sym c.at_step.ensures ∙ c.if-at_step.false)
    (later (sym c.at_update.ensures ∙ c.if-at_update.false) (first (sym c.at_set.ensures ∙ c.if-at_set.true)))) c.one_set.ensures.exact

pub returns-then-at-clause-exact : goal.returns-then-at-clause-exact
returns-then-at-clause-exact c = continues_rule _ (One (is kind.Comma) ∷ A (Expressions (in_head (setting_of c.args.setting))) ∷ One
    (may_set (setting_of c.args.setting)) ∷ A (Expressions (in_head (setting_of c.args.setting))) ∷ []) _ _ _ _ _ c.several_set.result
    (later (sym c.at_step.ensures ∙ c.if-at_step.false)
    (later (sym c.at_update.ensures ∙ c.if-at_update.false)
    (later (sym c.at_set.ensures ∙ c.if-at_set.false) (first (sym c.at.ensures ∙ c.if-at.true))))) c.several_set.ensures.exact

pub returns-clause-exact : goal.returns-clause-exact
returns-clause-exact c = continued (expr_spelled c.args.first)
    (read_rule (later (sym c.at_step.ensures ∙ c.if-at_step.false)
    (later (sym c.at_update.ensures ∙ c.if-at_update.false)
    (later (sym c.at_set.ensures ∙ c.if-at_set.false) (later (sym c.at.ensures ∙ c.if-at.false) last)))) read_end)
    (append-nil (expr_spelled c.args.first) ∙ sym (alone_spelled _))

pub updated-requires : goal.updated-requires
updated-requires c = c.requires

pub one_set-requires : goal.one_set-requires
one_set-requires c = c.requires

pub several_set-requires : goal.several_set-requires
several_set-requires c = c.requires

pub returns-then-at_step-clause-formed : goal.returns-then-at_step-clause-formed
returns-then-at_step-clause-formed c = c.stepped.ensures.formed

pub returns-then-at_update-clause-formed : goal.returns-then-at_update-clause-formed
returns-then-at_update-clause-formed c = c.updated.ensures.formed

pub returns-then-at_set-clause-formed : goal.returns-then-at_set-clause-formed
returns-then-at_set-clause-formed c = c.one_set.ensures.formed

pub returns-then-at-clause-formed : goal.returns-then-at-clause-formed
returns-then-at-clause-formed c = c.several_set.ensures.formed

pub returns-clause-formed : goal.returns-clause-formed
returns-clause-formed c = alone_formed c.args.setting _ c.requires
