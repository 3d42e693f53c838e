-- The answers to the goals of `statements::statement`.
use Rattle.std.proofs.Common.{[], ◌++◌, ◌∙◌, ap, sym, arith, true, refl}
use Rattle.std.specs.List.{flat_map}
use Rattle.types_declared.proofs.ItemFaults.{each_none, each_as, each_step, each_all, call_each, then_each}
use Rattle.go_ast.specs.View.{option_view}
use Rattle.go_ast.specs.FileView.{simple_view, init_view, for_view, stmt_view, block_view, if_view, else_view}
use Rattle.go_ast.specs.declared.tree.IfStmt.{out-IfStmt}
use Rattle.types_declared.specs.Laid.{laid_in}
use Rattle.types_resolve.specs.StatementMarks.{IsFaultOfMark, simple_marks, init_marks, for_marks, stray, statement_marks, block_marks, if_marks, else_marks}
use Rattle.types_resolve.proofs.MarkParts.{statement_part, block_read, if_from}
use Rattle.types_resolve.proofs.statements.+statement.Goals as goal

pub add_statement-returns-in-Empty : goal.add_statement-returns-in-Empty
unfolding statement_marks stmt_view
add_statement-returns-in-Empty t c = each_as (IsFaultOfMark (laid_in c.args.scope.table.now) c.args.scope.rank) c.args.found.now.items
    c.args.found.now.items [] _ (each_none (IsFaultOfMark (laid_in c.args.scope.table.now) c.args.scope.rank) c.args.found.now.items)
    (ap (λ v. statement_marks c.args.in_for (stmt_view v)) (sym c.in-Empty.is))

pub add_statement-returns-in-Var : goal.add_statement-returns-in-Var
unfolding statement_marks stmt_view
add_statement-returns-in-Var t c = each_as (IsFaultOfMark (laid_in c.args.scope.table.now) c.args.scope.rank) c.args.found.now.items c.args.found.now.items
    [] _ (each_none (IsFaultOfMark (laid_in c.args.scope.table.now) c.args.scope.rank) c.args.found.now.items)
    (ap (λ v. statement_marks c.args.in_for (stmt_view v)) (sym c.in-Var.is))

pub add_statement-returns-in-Return : goal.add_statement-returns-in-Return
unfolding statement_marks stmt_view
add_statement-returns-in-Return t c = each_as (IsFaultOfMark (laid_in c.args.scope.table.now) c.args.scope.rank) c.args.found.now.items
    c.args.found.now.items [] _ (each_none (IsFaultOfMark (laid_in c.args.scope.table.now) c.args.scope.rank) c.args.found.now.items)
    (ap (λ v. statement_marks c.args.in_for (stmt_view v)) (sym c.in-Return.is))

pub add_statement-returns-in-Simple : goal.add_statement-returns-in-Simple
unfolding statement_marks stmt_view
add_statement-returns-in-Simple t c = call_each (IsFaultOfMark (laid_in c.args.scope.table.now) c.args.scope.rank) c.args.found.now.items
    c.add_simple.new.found.items (simple_marks (simple_view c.in-Simple.simple)) _ c.add_simple.result c.add_simple.ensures
    (ap (λ v. statement_marks c.args.in_for (stmt_view v)) (sym c.in-Simple.is))

pub add_statement-returns-in-Block : goal.add_statement-returns-in-Block
unfolding statement_marks stmt_view
add_statement-returns-in-Block t c = call_each (IsFaultOfMark (laid_in c.args.scope.table.now) c.args.scope.rank) c.args.found.now.items
    c.add_block.new.found.items (block_marks c.args.in_for (block_view c.in-Block.block)) _ c.add_block.result c.add_block.ensures
    (ap (λ v. statement_marks c.args.in_for (stmt_view v)) (sym c.in-Block.is))

pub add_statement-returns-in-If : goal.add_statement-returns-in-If
unfolding statement_marks stmt_view
add_statement-returns-in-If t c = call_each (IsFaultOfMark (laid_in c.args.scope.table.now) c.args.scope.rank) c.args.found.now.items
    c.add_if.new.found.items (if_marks c.args.in_for (if_view c.deref.result.now)) _ c.add_if.result c.add_if.ensures
    (ap (λ z. if_marks c.args.in_for (if_view z)) c.deref.ensures ∙ ap (λ v. statement_marks c.args.in_for (stmt_view v)) (sym c.in-If.is))

pub add_statement-returns-in-Break : goal.add_statement-returns-in-Break
unfolding statement_marks stmt_view
add_statement-returns-in-Break t c = call_each (IsFaultOfMark (laid_in c.args.scope.table.now) c.args.scope.rank) c.args.found.now.items
    c.add_stray.new.found.items (stray c.args.in_for c.in-Break.at) _ c.add_stray.result c.add_stray.ensures
    (ap (λ v. statement_marks c.args.in_for (stmt_view v)) (sym c.in-Break.is))

pub add_statement-returns-in-Continue : goal.add_statement-returns-in-Continue
unfolding statement_marks stmt_view
add_statement-returns-in-Continue t c = call_each (IsFaultOfMark (laid_in c.args.scope.table.now) c.args.scope.rank) c.args.found.now.items
    c.add_stray-in-Continue.new.found.items (stray c.args.in_for c.in-Continue.at) _ c.add_stray-in-Continue.result c.add_stray-in-Continue.ensures
    (ap (λ v. statement_marks c.args.in_for (stmt_view v)) (sym c.in-Continue.is))

pub add_statement-returns-in_ok-add_header-in-For : goal.add_statement-returns-in_ok-add_header-in-For
unfolding statement_marks stmt_view
add_statement-returns-in_ok-add_header-in-For t c =
    then_each (IsFaultOfMark (laid_in c.args.scope.table.now) c.args.scope.rank) c.args.found.now.items c.add_header.new.found.items
    c.add_block-in-For.new.found.items (for_marks (for_view c.deref-in-For.result.now)) (block_marks true (block_view c.in-For.body)) _
    c.add_block-in-For.result c.in_ok-add_header-in-For.ensures c.add_block-in-For.ensures
    (ap (λ h. for_marks (for_view h) ++ block_marks true (block_view c.in-For.body)) c.deref-in-For.ensures ∙
    ap (λ v. statement_marks c.args.in_for (stmt_view v)) (sym c.in-For.is))

pub add_block-loop-item-preserved : goal.add_block-loop-item-preserved
add_block-loop-item-preserved t c =
    each_step (IsFaultOfMark (laid_in c.args.scope.table.now) c.args.scope.rank) c.args.found.now.items c.loop-item.found.items
    c.add_statement.new.found.items (statement_part c.args.in_for) c.deref-item-items.result.now c.loop-item.item-index c.item-item.result
    (omega arith) c.item-item.is c.loop-item.invariant c.in_ok-add_statement.ensures

pub add_block-returns : goal.add_block-returns
add_block-returns t c =
    each_as (IsFaultOfMark (laid_in c.args.scope.table.now) c.args.scope.rank) c.args.found.now.items c.loop-item.found.items
    (flat_map (statement_part c.args.in_for) c.deref-item-items.result.now) _
    (each_all (IsFaultOfMark (laid_in c.args.scope.table.now) c.args.scope.rank) c.args.found.now.items c.loop-item.found.items
    (statement_part c.args.in_for) c.deref-item-items.result.now c.loop-item.item-index (omega arith) c.loop-item.invariant)
    (block_read c.args.in_for c.args.block.now c.deref-item-items.result.now c.deref-item-items.ensures.value)

pub add_if-returns : goal.add_if-returns
add_if-returns t c =
    let x = out-IfStmt c.args.branch.now in
    let is = init_marks (option_view init_view x.init) in
    let bs = block_marks c.args.in_for (block_view x.body) in
    let es = else_marks c.args.in_for (else_view x.otherwise) in
    then_each (IsFaultOfMark (laid_in c.args.scope.table.now) c.args.scope.rank) c.args.found.now.items c.add_init.new.found.items
    c.add_else.new.found.items is (bs ++ es) (if_marks c.args.in_for (if_view c.args.branch.now)) c.add_else.result c.in_ok-add_init.ensures
    (then_each (IsFaultOfMark (laid_in c.args.scope.table.now) c.args.scope.rank) c.add_init.new.found.items c.add_block.new.found.items
    c.add_else.new.found.items bs es (bs ++ es) c.add_else.result c.in_ok-add_block.ensures c.add_else.ensures refl)
    (if_from c.args.in_for c.args.branch.now)

pub add_else-returns-in-None : goal.add_else-returns-in-None
unfolding else_marks else_view
add_else-returns-in-None t c = each_as (IsFaultOfMark (laid_in c.args.scope.table.now) c.args.scope.rank) c.args.found.now.items c.args.found.now.items [] _
    (each_none (IsFaultOfMark (laid_in c.args.scope.table.now) c.args.scope.rank) c.args.found.now.items)
    (ap (λ v. else_marks c.args.in_for (else_view v)) (sym c.in-None.is))

pub add_else-returns-in-If : goal.add_else-returns-in-If
unfolding else_marks else_view
add_else-returns-in-If t c = call_each (IsFaultOfMark (laid_in c.args.scope.table.now) c.args.scope.rank) c.args.found.now.items c.add_if.new.found.items
    (if_marks c.args.in_for (if_view c.deref.result.now)) _ c.add_if.result c.add_if.ensures
    (ap (λ z. if_marks c.args.in_for (if_view z)) c.deref.ensures ∙ ap (λ v. else_marks c.args.in_for (else_view v)) (sym c.in-If.is))

pub add_else-returns-in-Block : goal.add_else-returns-in-Block
unfolding else_marks else_view
add_else-returns-in-Block t c = call_each (IsFaultOfMark (laid_in c.args.scope.table.now) c.args.scope.rank) c.args.found.now.items
    c.add_block.new.found.items (block_marks c.args.in_for (block_view c.in-Block.block)) _ c.add_block.result c.add_block.ensures
    (ap (λ v. else_marks c.args.in_for (else_view v)) (sym c.in-Block.is))
