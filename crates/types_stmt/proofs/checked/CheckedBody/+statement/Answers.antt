-- The answers to the goals of `checked::CheckedBody::statement`.
use Rattle.std.proofs.Common.{◌+◌, ap, sym, ◌∙◌, drop, map}
use Rattle.std.proofs.Math.ListN.{drop_of_length-le}
use Rattle.std.proofs.lemmas.Result.{on_ok_weaker}
use Rattle.go_ast.specs.View.{expr_view, exprs_view, group_view}
use Rattle.go_ast.specs.FileView.{for_view, local_view, stmt_view, block_view, if_view, else_view}
use Rattle.go_ast.specs.declared.tree.IfStmt.{out-IfStmt}
use Rattle.types_expr.specs.WorldView.{world_of}
use Rattle.types_stmt.specs.Checked.{check_group}
use Rattle.types_stmt.specs.Simple.{check_condition, check_local}
use Rattle.types_stmt.specs.Statements.{check_return, check_for_header, check_statement, check_block, check_if, check_else}
use Rattle.types_stmt.specs.View.{checked_of, target_of}
use Rattle.types_stmt.proofs.Blocks.{check_each, each_step, each_end, block_read, if_from}
use Rattle.types_expr.proofs.Items.{next_item}
use Rattle.types_stmt.proofs.checked.CheckedBody.+statement.Goals as goal

pub check_statement-returns-in-Empty : goal.check_statement-returns-in-Empty
unfolding check_statement stmt_view
check_statement-returns-in-Empty t c = ap (λ v. check_statement (world_of c.args.world.now) (map target_of c.args.results.now) (checked_of c.args.self.now)
    (stmt_view v)) (sym c.in-Empty.is)

pub check_statement-returns-in-Break : goal.check_statement-returns-in-Break
unfolding check_statement stmt_view
check_statement-returns-in-Break t c = ap (λ v. check_statement (world_of c.args.world.now) (map target_of c.args.results.now) (checked_of c.args.self.now)
    (stmt_view v)) (sym c.in-Break.is)

pub check_statement-returns-in-Continue : goal.check_statement-returns-in-Continue
unfolding check_statement stmt_view
check_statement-returns-in-Continue t c = ap (λ v.
    check_statement (world_of c.args.world.now) (map target_of c.args.results.now) (checked_of c.args.self.now) (stmt_view v)) (sym c.in-Continue.is)

pub check_statement-returns-in-Var : goal.check_statement-returns-in-Var
unfolding check_statement stmt_view
check_statement-returns-in-Var t c = on_ok_weaker c.check_local_group.result
    (λ q. q ∙ (ap (λ g. check_group (check_local (world_of c.args.world.now)) (checked_of c.args.self.now) (group_view local_view g)) c.deref.ensures ∙
    ap (λ v. check_statement (world_of c.args.world.now) (map target_of c.args.results.now) (checked_of c.args.self.now) (stmt_view v))
    (sym c.in-Var.is))) c.check_local_group.ensures

pub check_statement-returns-in-Simple : goal.check_statement-returns-in-Simple
unfolding check_statement stmt_view
check_statement-returns-in-Simple t c = on_ok_weaker c.check_simple.result
    (λ q. q ∙ ap (λ v. check_statement (world_of c.args.world.now) (map target_of c.args.results.now) (checked_of c.args.self.now) (stmt_view v))
    (sym c.in-Simple.is)) c.check_simple.ensures

pub check_statement-returns-in-Block : goal.check_statement-returns-in-Block
unfolding check_statement stmt_view
check_statement-returns-in-Block t c = on_ok_weaker c.check_block.result
    (λ q. q ∙ ap (λ v. check_statement (world_of c.args.world.now) (map target_of c.args.results.now) (checked_of c.args.self.now) (stmt_view v))
    (sym c.in-Block.is)) c.check_block.ensures

pub check_statement-returns-in-If : goal.check_statement-returns-in-If
unfolding check_statement stmt_view
check_statement-returns-in-If t c = on_ok_weaker c.check_if.result
    (λ q. q ∙ (ap (λ z. check_if (world_of c.args.world.now) (map target_of c.args.results.now) (checked_of c.args.self.now) (if_view z))
    c.deref-in-If.ensures ∙
    ap (λ v. check_statement (world_of c.args.world.now) (map target_of c.args.results.now) (checked_of c.args.self.now) (stmt_view v))
    (sym c.in-If.is))) c.check_if.ensures

pub check_statement-returns-in-Return : goal.check_statement-returns-in-Return
unfolding check_statement stmt_view
check_statement-returns-in-Return t c =
    on_ok_weaker c.check_return.result (λ q. q ∙ (ap (λ z.
    check_return (world_of c.args.world.now) (checked_of c.args.self.now) c.in-Return.at (map target_of c.args.results.now) (exprs_view z))
    c.deref-in-Return.ensures.value ∙ ap (λ v.
    check_statement (world_of c.args.world.now) (map target_of c.args.results.now) (checked_of c.args.self.now) (stmt_view v)) (sym c.in-Return.is)))
    c.check_return.ensures

pub check_statement-returns-in_ok-check_for_header-in-For : goal.check_statement-returns-in_ok-check_for_header-in-For
unfolding check_statement stmt_view
check_statement-returns-in_ok-check_for_header-in-For t c =
    on_ok_weaker c.check_block-in-For.result (λ q. q ∙
    (ap (λ s. check_block (world_of c.args.world.now) (map target_of c.args.results.now) s (block_view c.in-For.body))
    (c.in_ok-check_for_header-in-For.ensures ∙ ap (λ h. check_for_header (world_of c.args.world.now) (checked_of c.args.self.now) (for_view h))
    c.deref-in-For.ensures) ∙
    ap (λ v. check_statement (world_of c.args.world.now) (map target_of c.args.results.now) (checked_of c.args.self.now) (stmt_view v))
    (sym c.in-For.is))) c.check_block-in-For.ensures

pub check_block-loop-item-preserved : goal.check_block-loop-item-preserved
check_block-loop-item-preserved t c =
    ap (λ s. check_each (world_of c.args.world.now) (map target_of c.args.results.now) s (drop (c.loop-item.item-index + 1) c.deref-item-items.result.now))
    c.in_ok-check_statement.ensures
    ∙ (sym (ap (λ xs. check_each (world_of c.args.world.now) (map target_of c.args.results.now) (checked_of c.loop-item.self) xs)
    (next_item _ _ _ c.loop-item-test.true c.item-item.is) ∙
    each_step (world_of c.args.world.now) (map target_of c.args.results.now) (checked_of c.loop-item.self) c.item-item.result _) ∙ c.loop-item.invariant)

pub check_block-returns : goal.check_block-returns
check_block-returns t c =
    sym (ap (λ xs. check_each (world_of c.args.world.now) (map target_of c.args.results.now) (checked_of c.loop-item.self) xs)
    (drop_of_length-le _ c.loop-item-test.false) ∙ each_end (world_of c.args.world.now) (map target_of c.args.results.now) (checked_of c.loop-item.self))
    ∙ (c.loop-item.invariant ∙ block_read (world_of c.args.world.now) (map target_of c.args.results.now) (checked_of c.args.self.now) c.args.block.now _
    c.deref-item-items.ensures.value)

pub check_if-returns : goal.check_if-returns
check_if-returns t c =
    on_ok_weaker c.check_else.result (λ q. q ∙ (ap (λ s.
    check_else (world_of c.args.world.now) (map target_of c.args.results.now) s (else_view (out-IfStmt c.args.branch.now).otherwise))
    (c.in_ok-check_block.ensures
    ∙ ap (λ s. check_block (world_of c.args.world.now) (map target_of c.args.results.now) s (block_view (out-IfStmt c.args.branch.now).body))
    (c.in_ok-check_condition.ensures ∙
    ap (λ s. check_condition (world_of c.args.world.now) s (expr_view (out-IfStmt c.args.branch.now).condition)) c.in_ok-check_init.ensures))
    ∙ if_from (world_of c.args.world.now) (map target_of c.args.results.now) (checked_of c.args.self.now) c.args.branch.now)) c.check_else.ensures

pub check_else-returns-in-None : goal.check_else-returns-in-None
unfolding check_else else_view
check_else-returns-in-None t c = ap (λ v. check_else (world_of c.args.world.now) (map target_of c.args.results.now) (checked_of c.args.self.now)
    (else_view v)) (sym c.in-None.is)

pub check_else-returns-in-If : goal.check_else-returns-in-If
unfolding check_else else_view
check_else-returns-in-If t c = on_ok_weaker c.check_if.result
    (λ q. q ∙ (ap (λ z. check_if (world_of c.args.world.now) (map target_of c.args.results.now) (checked_of c.args.self.now) (if_view z)) c.deref.ensures ∙
    ap (λ v. check_else (world_of c.args.world.now) (map target_of c.args.results.now) (checked_of c.args.self.now) (else_view v)) (sym c.in-If.is)))
    c.check_if.ensures

pub check_else-returns-in-Block : goal.check_else-returns-in-Block
unfolding check_else else_view
check_else-returns-in-Block t c = on_ok_weaker c.check_block.result
    (λ q. q ∙ ap (λ v. check_else (world_of c.args.world.now) (map target_of c.args.results.now) (checked_of c.args.self.now) (else_view v))
    (sym c.in-Block.is)) c.check_block.ensures
