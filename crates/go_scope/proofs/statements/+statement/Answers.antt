-- The answers to the goals of `statements::statement`.
use Rattle.std.proofs.Common.{ap, sym, ◌∙◌, arith}
use Rattle.go_scope.specs.ExpressionSites.{exprs_sites}
use Rattle.go_scope.specs.StatementSites.{group_sites, local_sites, statement_sites, if_sites, else_sites}
use Rattle.go_scope.specs.IdentifierViews.{as_source}
use Rattle.go_scope.proofs.Adding.{adds_none, adds_as, call_adds, then_adds, three_then_adds, each_step, each_all}
use Rattle.go_scope.proofs.StatementParts.{for_from, block_read, if_from}
use Rattle.go_scope.specs.declared.model.Block.TheVariants as blocks
use Rattle.go_ast.specs.declared.tree.BlockStmt.{out-BlockStmt}
use Rattle.go_ast.specs.View.{exprs_view, group_view}
use Rattle.go_ast.specs.FileView.{local_view, stmt_view, if_view, else_view}
use Rattle.go_scope.proofs.statements.+statement.Goals as goal

pub add_statement-returns-in-Empty : goal.add_statement-returns-in-Empty
unfolding statement_sites stmt_view
add_statement-returns-in-Empty t c = adds_as (adds_none c.args.found.now.items)
    (ap (λ v. statement_sites (as_source c.args.source.now) c.args.block c.args.following (stmt_view v)) (sym c.in-Empty.is))

pub add_statement-returns-in-Break : goal.add_statement-returns-in-Break
unfolding statement_sites stmt_view
add_statement-returns-in-Break t c = adds_as (adds_none c.args.found.now.items)
    (ap (λ v. statement_sites (as_source c.args.source.now) c.args.block c.args.following (stmt_view v)) (sym c.in-Break.is))

pub add_statement-returns-in-Continue : goal.add_statement-returns-in-Continue
unfolding statement_sites stmt_view
add_statement-returns-in-Continue t c = adds_as (adds_none c.args.found.now.items)
    (ap (λ v. statement_sites (as_source c.args.source.now) c.args.block c.args.following (stmt_view v)) (sym c.in-Continue.is))

pub add_statement-returns-in-Var : goal.add_statement-returns-in-Var
unfolding statement_sites stmt_view
add_statement-returns-in-Var t c = call_adds _ _ c.add_locals.result c.add_locals.ensures
    (ap (λ g. group_sites (local_sites (as_source c.args.source.now) c.args.block) c.args.following (group_view local_view g)) c.deref.ensures ∙
    ap (λ v. statement_sites (as_source c.args.source.now) c.args.block c.args.following (stmt_view v)) (sym c.in-Var.is))

pub add_statement-returns-in-Simple : goal.add_statement-returns-in-Simple
unfolding statement_sites stmt_view
add_statement-returns-in-Simple t c = call_adds _ _ c.add_simple.result c.add_simple.ensures
    (ap (λ v. statement_sites (as_source c.args.source.now) c.args.block c.args.following (stmt_view v)) (sym c.in-Simple.is))

pub add_statement-returns-in-Block : goal.add_statement-returns-in-Block
unfolding statement_sites stmt_view
add_statement-returns-in-Block t c = call_adds _ _ c.add_block.result c.add_block.ensures
    (ap (λ v. statement_sites (as_source c.args.source.now) c.args.block c.args.following (stmt_view v)) (sym c.in-Block.is))

pub add_statement-returns-in-If : goal.add_statement-returns-in-If
unfolding statement_sites stmt_view
add_statement-returns-in-If t c =
    call_adds _ _ c.add_if.result c.add_if.ensures (ap (λ z. if_sites (as_source c.args.source.now) c.args.following (if_view z)) c.deref-in-If.ensures ∙
    ap (λ v. statement_sites (as_source c.args.source.now) c.args.block c.args.following (stmt_view v)) (sym c.in-If.is))

pub add_statement-returns-in-Return : goal.add_statement-returns-in-Return
unfolding statement_sites stmt_view
add_statement-returns-in-Return t c =
    call_adds _ _ c.add_exprs.result c.add_exprs.ensures
    (ap (λ z. exprs_sites (as_source c.args.source.now) (exprs_view z)) c.deref-in-Return.ensures.value ∙
    ap (λ v. statement_sites (as_source c.args.source.now) c.args.block c.args.following (stmt_view v)) (sym c.in-Return.is))

pub add_statement-returns-in_ok-add_header-in-For : goal.add_statement-returns-in_ok-add_header-in-For
add_statement-returns-in_ok-add_header-in-For t c =
    then_adds _ _ c.add_block-in-For.result c.in_ok-add_header-in-For.ensures c.add_block-in-For.ensures
    (for_from _ c.args.block c.args.following c.args.statement.now c.in-For.at c.in-For.header c.in-For.body c.in-For.is _
    c.deref-in-For.ensures)

pub add_block-loop-item-preserved : goal.add_block-loop-item-preserved
add_block-loop-item-preserved t c =
    each_step _ c.deref-item-items.result.now c.loop-item.item-index c.item-item.result (omega arith) c.item-item.is c.loop-item.invariant
    (adds_as c.in_ok-add_statement.ensures
    (ap (λ q. statement_sites (as_source c.args.source.now) (blocks.Inner (as_source c.args.source.now).rank (out-BlockStmt c.args.block.now).«open»
    (out-BlockStmt c.args.block.now).close) q (stmt_view c.item-item.result.statement)) c.unwrap_or-behind.ensures))

pub add_block-returns : goal.add_block-returns
add_block-returns t c =
    adds_as (each_all _ c.deref-item-items.result.now c.loop-item.item-index (omega arith) c.loop-item.invariant)
    (block_read _ c.args.block.now _ c.deref-item-items.ensures.value)

pub add_if-returns : goal.add_if-returns
add_if-returns t c =
    three_then_adds _ _ c.add_else.result c.in_ok-add_init.ensures c.in_ok-add_expr.ensures c.in_ok-add_block.ensures c.add_else.ensures
    (if_from _ c.args.following c.args.branch.now)

pub add_else-returns-in-None : goal.add_else-returns-in-None
unfolding else_sites else_view
add_else-returns-in-None t c = adds_as (adds_none c.args.found.now.items)
    (ap (λ v. else_sites (as_source c.args.source.now) c.args.following (else_view v)) (sym c.in-None.is))

pub add_else-returns-in-If : goal.add_else-returns-in-If
unfolding else_sites else_view
add_else-returns-in-If t c =
    call_adds _ _ c.add_if.result c.add_if.ensures (ap (λ z. if_sites (as_source c.args.source.now) c.args.following (if_view z)) c.deref.ensures ∙
    ap (λ v. else_sites (as_source c.args.source.now) c.args.following (else_view v)) (sym c.in-If.is))

pub add_else-returns-in-Block : goal.add_else-returns-in-Block
unfolding else_sites else_view
add_else-returns-in-Block t c = call_adds _ _ c.add_block.result c.add_block.ensures
    (ap (λ v. else_sites (as_source c.args.source.now) c.args.following (else_view v)) (sym c.in-Block.is))
