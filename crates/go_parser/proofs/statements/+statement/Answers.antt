-- The answers to the goals of `statements::statement`.
use Rattle.std.proofs.Common.{◌++◌, ◌∷◌, [], ap, sym, ◌∙◌, refl}
use Rattle.go_ast.specs.declared.syntax.Kind.TheVariants as kind
use Rattle.go_ast.specs.Grammar.{A, Close, MoreStatements, One, Statement, is}
use Rattle.go_parser.specs.Machine.{first, last, later}
use Rattle.go_ast.specs.Flatten.{sign}
use Rattle.go_parser.specs.ListSpelling.{group_spelled}
use Rattle.go_parser.specs.Spelling.{block_spelled, for_spelled, if_spelled, local_spelled}
use Rattle.go_parser.proofs.MachineSteps.{exits, fails_first, fails_later, fails_leads, fails_rule, read_as, read_end, read_rule, read_then, read_to_close}
use Rattle.go_parser.proofs.MachineSteps.{tail_rule}
use Rattle.go_parser.proofs.StatementSteps.{continued, item_shorter, leads_item, leads_more, leads_none, leads_push, read_continued}
use Rattle.go_parser.proofs.StatementSteps.{read_items, read_level, read_on}
use Rattle.go_parser.proofs.FormedStatements.{block_formed, block_stmt_formed, else_block_formed, else_if_formed, for_stmt_formed, if_formed, if_stmt_formed}
use Rattle.go_parser.proofs.FormedStatements.{no_else_formed, var_formed}
use Rattle.go_parser.proofs.ListedSteps.{listed_false, listed_none, listed_push}
use Rattle.go_parser.proofs.SpelledStatements.{block_spelled_as, block_stmt_spelled, else_block_spelled, else_if_spelled, for_stmt_spelled, if_spelled_as}
use Rattle.go_parser.proofs.SpelledStatements.{if_stmt_spelled, no_else_spelled, var_spelled, block_item_spelled}
use Rattle.std.proofs.Common.{arith, length, ◌≤◌, subst}
use Rattle.go_ast.specs.WellFormed.{IsFor, IsGroup, IsIf, IsLocal}
use Rattle.go_ast.specs.FileView.{for_view, if_view, local_view}
use Rattle.go_ast.specs.View.{group_view}
use Rattle.go_parser.proofs.Lists.{items_rest}
use Rattle.go_parser.proofs.MachineSteps.{fails_after}
use Rattle.go_parser.proofs.MachineSteps.{fails_more}
use Rattle.go_parser.proofs.MachineSteps.{read_led}
use Rattle.go_parser.proofs.statements.+statement.Goals as goal

pub block-returns-in_err-open-clause-exact : goal.block-returns-in_err-open-clause-exact
block-returns-in_err-open-clause-exact t c = exits _ _ _ _ c.in_err-open.field-0.0 c.from_residual.result c.from_residual.ensures.1
    (fails_rule last (fails_first c.in_err-open.ensures))

pub block-statements-init : goal.block-statements-init
block-statements-init t c = record {
  leads = leads_none block_item_spelled _ c.new-statements.ensures.items;
  shorter = grind arith;
  formed =
      listed_none _ _ _ c.new-statements.ensures.items;
}

pub block-statements-preserved : goal.block-statements-preserved
block-statements-preserved t c =
    let less : length c.separator-semicolon.result.1.now ≤ length c.statements.rest.now =
    item_shorter kind.Semicolon _ c.separator-semicolon.result.1.now c.in_ok-statement.ensures.exact c.separator-semicolon.ensures in
    record {
      leads = leads_push block_item_spelled _ _ _ (leads_more (items_rest (A Statement ∷ A MoreStatements ∷ [])) _ c.statements.invariant.leads
          c.statements-test.true)
          (leads_item kind.Semicolon _ (A Statement ∷ []) MoreStatements _ c.is_some-more.ensures (λ us e. first e) (λ us e. later e last)
          c.in_ok-statement.ensures.exact c.separator-semicolon.ensures) c.in_ok-push.ensures.items;
      shorter = omega (arith, less, c.statements.invariant.shorter);
      formed = listed_push _ _ _ _ _ _ _ c.statements.invariant.formed c.statements-test.true c.in_ok-statement.ensures.formed c.is_some-more.ensures
          c.in_ok-push.ensures.items;
    }

pub block-returns-in_err-statement-clause-exact : goal.block-returns-in_err-statement-clause-exact
block-returns-in_err-statement-clause-exact t c = exits _ _ _ _ c.in_err-statement.field-0.0 c.from_residual-in_err-statement.result
    c.from_residual-in_err-statement.ensures.1
    (fails_rule last (fails_later c.in_ok-open.ensures.read
    (fails_more (One (is kind.RightBrace) ∷ Close ∷ [])
    (fails_leads (leads_more (items_rest (A Statement ∷ A MoreStatements ∷ [])) _ c.statements.invariant.leads c.statements-test.true)
    (fails_first c.in_err-statement.ensures.exact)))))

pub block-returns-in_err-close-clause-exact : goal.block-returns-in_err-close-clause-exact
block-returns-in_err-close-clause-exact t c = exits _ _ _ _ c.in_err-close.field-0.0 c.from_residual-in_err-close.result c.from_residual-in_err-close.ensures.1
    (fails_rule last (fails_later c.in_ok-open.ensures.read
    (fails_after (read_items (items_rest (A Statement ∷ A MoreStatements ∷ [])) _ refl c.statements.invariant.leads c.statements-test.false)
    (fails_first c.in_err-close.ensures))))

pub block-returns-clause-exact : goal.block-returns-clause-exact
block-returns-clause-exact t c = read_as (read_rule last
    (read_then c.in_ok-open.ensures.read
    (read_on (read_items (items_rest (A Statement ∷ A MoreStatements ∷ [])) _ refl c.statements.invariant.leads c.statements-test.false)
    (read_to_close c.in_ok-open.ensures.deeper c.in_ok-close.ensures)))) (sym (block_spelled_as _ _ _))

pub statement-returns-in_err-var-clause-exact : goal.statement-returns-in_err-var-clause-exact
statement-returns-in_err-var-clause-exact t c = exits _ _ _ _ c.in_err-var.field-0.0 c.from_residual.result c.from_residual.ensures.1
    (fails_rule (first (sym c.at.ensures ∙ c.if-at.true)) (fails_first c.in_err-var.ensures))

pub statement-returns-in_err-locals-clause-exact : goal.statement-returns-in_err-locals-clause-exact
statement-returns-in_err-locals-clause-exact t c = exits _ _ _ _ c.in_err-locals.field-0.0 c.from_residual-in_err-locals.result
    c.from_residual-in_err-locals.ensures.1
    (fails_rule (first (sym c.at.ensures ∙ c.if-at.true)) (fails_later c.in_ok-var.ensures c.in_err-locals.ensures.exact))

pub statement-returns-then-at-clause-exact : goal.statement-returns-then-at-clause-exact
statement-returns-then-at-clause-exact t c = read_as
    (read_rule (first (sym c.at.ensures ∙ c.if-at.true)) (read_then c.in_ok-var.ensures c.in_ok-locals.ensures.exact))
    (ap (λ g. sign kind.Var c.in_ok-var.var ∷ group_spelled (λ x. local_spelled x) g) (sym c.in_ok-group.ensures.ok) ∙ sym (var_spelled _ _))

pub statement-returns-in_err-inner-clause-exact : goal.statement-returns-in_err-inner-clause-exact
statement-returns-in_err-inner-clause-exact t c = exits _ _ _ _ c.in_err-inner.field-0.0 c.from_residual-in_err-inner.result
    c.from_residual-in_err-inner.ensures.1
    (fails_rule (later (sym c.at.ensures ∙ c.if-at.false) (first (sym c.at-2.ensures ∙ c.if-at-2.true))) c.in_err-inner.ensures.exact)

pub statement-returns-then-at-2-clause-exact : goal.statement-returns-then-at-2-clause-exact
statement-returns-then-at-2-clause-exact t c = read_as
    (read_rule (later (sym c.at.ensures ∙ c.if-at.false) (first (sym c.at-2.ensures ∙ c.if-at-2.true))) c.in_ok-inner.ensures.exact)
    (sym (block_stmt_spelled _))

pub statement-returns-in_err-keyword-clause-exact : goal.statement-returns-in_err-keyword-clause-exact
statement-returns-in_err-keyword-clause-exact t c =
    exits _ _ _ _ c.in_err-keyword.field-0.0 c.from_residual-in_err-keyword.result c.from_residual-in_err-keyword.ensures.1
    (fails_rule (later (sym c.at.ensures ∙ c.if-at.false) (later (sym c.at-2.ensures ∙ c.if-at-2.false) (first (sym c.at-3.ensures ∙ c.if-at-3.true))))
    (fails_first c.in_err-keyword.ensures))

pub statement-returns-in_err-branch-clause-exact : goal.statement-returns-in_err-branch-clause-exact
statement-returns-in_err-branch-clause-exact t c =
    exits _ _ _ _ c.in_err-branch.field-0.0 c.from_residual-in_err-branch.result c.from_residual-in_err-branch.ensures.1
    (fails_rule (later (sym c.at.ensures ∙ c.if-at.false) (later (sym c.at-2.ensures ∙ c.if-at-2.false) (first (sym c.at-3.ensures ∙ c.if-at-3.true))))
    (fails_later c.in_ok-keyword.ensures c.in_err-branch.ensures.exact))

pub statement-returns-then-at-3-clause-exact : goal.statement-returns-then-at-3-clause-exact
statement-returns-then-at-3-clause-exact t c = read_as
    (read_rule (later (sym c.at.ensures ∙ c.if-at.false) (later (sym c.at-2.ensures ∙ c.if-at-2.false) (first (sym c.at-3.ensures ∙ c.if-at-3.true))))
    (read_continued c.in_ok-keyword.ensures c.in_ok-branch.ensures.exact)) (sym (if_stmt_spelled _))

pub statement-returns-then-at-4-clause-exact : goal.statement-returns-then-at-4-clause-exact
statement-returns-then-at-4-clause-exact t c = tail_rule _ _ _ _ _ _ c.for_stmt.result
    (later (sym c.at.ensures ∙ c.if-at.false)
    (later (sym c.at-2.ensures ∙ c.if-at-2.false) (later (sym c.at-3.ensures ∙ c.if-at-3.false) (first (sym c.at-4.ensures ∙ c.if-at-4.true)))))
    c.for_stmt.ensures.exact

pub for_stmt-returns-in_err-at-clause-exact : goal.for_stmt-returns-in_err-at-clause-exact
for_stmt-returns-in_err-at-clause-exact t c = exits _ _ _ _ c.in_err-at.field-0.0 c.from_residual.result c.from_residual.ensures.1
    (fails_first c.in_err-at.ensures)

pub for_stmt-returns-in_err-clauses-clause-exact : goal.for_stmt-returns-in_err-clauses-clause-exact
for_stmt-returns-in_err-clauses-clause-exact t c = exits _ _ _ _ c.in_err-clauses.field-0.0 c.from_residual-in_err-clauses.result
    c.from_residual-in_err-clauses.ensures.1
    (fails_later c.in_ok-at.ensures c.in_err-clauses.ensures.exact)

pub for_stmt-returns-in-Err-clause-exact : goal.for_stmt-returns-in-Err-clause-exact
for_stmt-returns-in-Err-clause-exact t c = fails_later c.in_ok-at.ensures (fails_leads c.in_ok-clauses.ensures.exact c.in-Err.ensures.exact)

pub for_stmt-returns-in-Ok-clause-exact : goal.for_stmt-returns-in-Ok-clause-exact
for_stmt-returns-in-Ok-clause-exact t c = read_as (read_then c.in_ok-at.ensures (read_led c.in_ok-clauses.ensures.exact c.in-Ok.ensures.exact))
    (ap (λ h. sign kind.For c.in_ok-at.at ∷ (for_spelled h ++ block_spelled c.in-Ok.body)) (sym c.in_ok-header.ensures.ok) ∙ sym (for_stmt_spelled _ _ _))

pub for_stmt-returns-in-Ok-clause-formed : goal.for_stmt-returns-in-Ok-clause-formed
for_stmt-returns-in-Ok-clause-formed t c = for_stmt_formed _ _ _
    (subst (λ h. IsFor (for_view h)) (sym c.in_ok-header.ensures.ok) c.in_ok-clauses.ensures.formed) c.in-Ok.ensures.formed

pub if_stmt-returns-in_err-init-clause-exact : goal.if_stmt-returns-in_err-init-clause-exact
if_stmt-returns-in_err-init-clause-exact t c = exits _ _ _ _ c.in_err-init.field-0.0 c.from_residual.result c.from_residual.ensures.1
    (c.in_err-init.ensures.exact)

pub branches-returns-in_err-body-clause-exact : goal.branches-returns-in_err-body-clause-exact
branches-returns-in_err-body-clause-exact t c = exits _ _ _ _ c.in_err-body.field-0.0 c.from_residual.result c.from_residual.ensures.1
    (fails_rule last (fails_first c.in_err-body.ensures.exact))

pub branches-returns-in-Err-clause-exact : goal.branches-returns-in-Err-clause-exact
branches-returns-in-Err-clause-exact t c = fails_rule last (fails_later c.in_ok-body.ensures.exact c.in-Err.ensures.exact)

pub branches-returns-in-Ok-clause-exact : goal.branches-returns-in-Ok-clause-exact
branches-returns-in-Ok-clause-exact t c = read_rule last (read_then c.in_ok-body.ensures.exact c.in-Ok.ensures.exact)

pub branches-returns-in-Ok-clause-formed : goal.branches-returns-in-Ok-clause-formed
branches-returns-in-Ok-clause-formed t c = (c.in_ok-body.ensures.formed, c.in-Ok.ensures.formed)

pub if_stmt-returns-in-Err-clause-exact : goal.if_stmt-returns-in-Err-clause-exact
if_stmt-returns-in-Err-clause-exact t c = fails_leads c.in_ok-init.ensures.exact c.in-Err.ensures.exact

pub if_stmt-returns-in_ok-boxed-in-Ok-clause-exact : goal.if_stmt-returns-in_ok-boxed-in-Ok-clause-exact
if_stmt-returns-in_ok-boxed-in-Ok-clause-exact t c = continued (sign kind.If c.args.at ∷ []) (read_led c.in_ok-init.ensures.exact c.in-Ok.ensures.exact)
    (sym (if_spelled_as _ _ _ _ _) ∙ ap if_spelled (sym c.in_ok-boxed-in-Ok.ensures.ok))

pub else_part-returns-then-not-at-clause-exact : goal.else_part-returns-then-not-at-clause-exact
else_part-returns-then-not-at-clause-exact t c = read_as (read_rule (later (sym c.at.ensures ∙ c.if-not-at.true) last) read_end) (sym no_else_spelled)

pub else_part-returns-in_err-word-clause-exact : goal.else_part-returns-in_err-word-clause-exact
else_part-returns-in_err-word-clause-exact t c = exits _ _ _ _ c.in_err-word.field-0.0 c.from_residual.result c.from_residual.ensures.1
    (fails_rule (first (sym c.at.ensures ∙ c.if-not-at.false)) (fails_first c.in_err-word.ensures))

pub else_part-returns-in_err-place-clause-exact : goal.else_part-returns-in_err-place-clause-exact
else_part-returns-in_err-place-clause-exact t c = exits _ _ _ _ c.in_err-place.field-0.0 c.from_residual-in_err-place.result
    c.from_residual-in_err-place.ensures.1
    (fails_rule (first (sym c.at.ensures ∙ c.if-not-at.false))
    (fails_later c.in_ok-word.ensures (fails_rule (first (sym c.at-2.ensures ∙ c.if-at.true)) (fails_first c.in_err-place.ensures))))

pub else_part-returns-in_err-branch-clause-exact : goal.else_part-returns-in_err-branch-clause-exact
else_part-returns-in_err-branch-clause-exact t c = exits _ _ _ _ c.in_err-branch.field-0.0 c.from_residual-in_err-branch.result
    c.from_residual-in_err-branch.ensures.1
    (fails_rule (first (sym c.at.ensures ∙ c.if-not-at.false))
    (fails_later c.in_ok-word.ensures
    (fails_rule (first (sym c.at-2.ensures ∙ c.if-at.true)) (fails_later c.in_ok-place.ensures.read (fails_first c.in_err-branch.ensures.exact)))))

pub else_part-returns-then-at-clause-exact : goal.else_part-returns-then-at-clause-exact
else_part-returns-then-at-clause-exact t c = read_as
    (read_rule (first (sym c.at.ensures ∙ c.if-not-at.false))
    (read_then c.in_ok-word.ensures
    (read_rule (first (sym c.at-2.ensures ∙ c.if-at.true))
    (read_level c.in_ok-place.ensures.deeper (read_continued c.in_ok-place.ensures.read c.in_ok-branch.ensures.exact)))))
    (sym (else_if_spelled _ _))

pub else_part-returns-in_err-block-clause-exact : goal.else_part-returns-in_err-block-clause-exact
else_part-returns-in_err-block-clause-exact t c = exits _ _ _ _ c.in_err-block.field-0.0 c.from_residual-in_err-block.result
    c.from_residual-in_err-block.ensures.1
    (fails_rule (first (sym c.at.ensures ∙ c.if-not-at.false))
    (fails_later c.in_ok-word.ensures (fails_rule (later (sym c.at-2.ensures ∙ c.if-at.false) last) c.in_err-block.ensures.exact)))

pub else_part-returns-clause-exact : goal.else_part-returns-clause-exact
else_part-returns-clause-exact t c = read_as (read_rule (first (sym c.at.ensures ∙ c.if-not-at.false))
    (read_then c.in_ok-word.ensures (read_rule (later (sym c.at-2.ensures ∙ c.if-at.false) last) c.in_ok-block.ensures.exact))) (sym (else_block_spelled _ _))

pub block-returns-clause-formed : goal.block-returns-clause-formed
block-returns-clause-formed t c = block_formed _ _ _ (listed_false _ _ _ _ c.statements.invariant.formed c.statements-test.false)

pub statement-returns-then-at-clause-formed : goal.statement-returns-then-at-clause-formed
statement-returns-then-at-clause-formed t c = var_formed _ _
    (subst (λ g. IsGroup (λ l. IsLocal (local_view l)) (group_view (λ y. y) g)) (sym c.in_ok-group.ensures.ok) c.in_ok-locals.ensures.formed)

pub statement-returns-then-at-2-clause-formed : goal.statement-returns-then-at-2-clause-formed
statement-returns-then-at-2-clause-formed t c = block_stmt_formed _ c.in_ok-inner.ensures.formed

pub statement-returns-then-at-3-clause-formed : goal.statement-returns-then-at-3-clause-formed
statement-returns-then-at-3-clause-formed t c = if_stmt_formed _ c.in_ok-branch.ensures.formed

pub statement-returns-then-at-4-clause-formed : goal.statement-returns-then-at-4-clause-formed
statement-returns-then-at-4-clause-formed t c = c.for_stmt.ensures.formed

pub if_stmt-returns-in_ok-boxed-in-Ok-clause-formed : goal.if_stmt-returns-in_ok-boxed-in-Ok-clause-formed
if_stmt-returns-in_ok-boxed-in-Ok-clause-formed t c = subst (λ i. IsIf (if_view i)) (sym c.in_ok-boxed-in-Ok.ensures.ok)
    (if_formed _ _ _ _ _ c.in_ok-init.ensures.formed.0 c.in_ok-init.ensures.formed.1 c.in-Ok.ensures.formed.0 c.in-Ok.ensures.formed.1)

pub else_part-returns-then-not-at-clause-formed : goal.else_part-returns-then-not-at-clause-formed
else_part-returns-then-not-at-clause-formed t c = no_else_formed

pub else_part-returns-then-at-clause-formed : goal.else_part-returns-then-at-clause-formed
else_part-returns-then-at-clause-formed t c = else_if_formed _ _ c.in_ok-branch.ensures.formed

pub else_part-returns-clause-formed : goal.else_part-returns-clause-formed
else_part-returns-clause-formed t c = else_block_formed _ _ c.in_ok-block.ensures.formed
