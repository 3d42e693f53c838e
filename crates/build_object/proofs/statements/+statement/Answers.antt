-- The answers to the goals of `statements::statement`.
use Rattle.std.proofs.Common.{◌-◌, ◌++◌, ◌∷◌, [], ap, sym, ◌∙◌, length, get_or, rules, arith, Some}
use Rattle.std.specs.List.{flat_map}
use Rattle.std.proofs.lemmas.Result.{on_ok_weaker}
use Rattle.go_ast.specs.View.{exprs_view, group_view}
use Rattle.go_ast.specs.FileView.{local_view, stmt_view, block_view, for_view, if_view, else_view}
use Rattle.go_ast.specs.declared.tree.Stmt as stmts
use Rattle.go_ast.specs.declared.tree.IfStmt as ifs
use Rattle.types_declared.specs.Files.{group_items}
use Rattle.build_object.specs.Lines.{Return}
use Rattle.build_object.specs.LineView.{lines_in}
use Rattle.build_object.specs.SourceView.{source_of}
use Rattle.build_object.specs.Statements.{for_condition, for_post, local_lines, statement_lines, lines_of_values, if_lines, else_lines}
use Rattle.build_object.specs.ExitsView.{exits_of, lines_of_each}
use Rattle.build_object.proofs.Putting.{puts_none, puts_as, puts_then, puts_length}
use Rattle.build_object.proofs.Loops.{back_end, back_start}
use Rattle.build_object.proofs.Blocks.{block_read, each_end, each_turn, else_as, else_grows, else_nothing, else_something, if_put, turns_put, within_more}
use Rattle.build_object.proofs.Blocks.{for_taken, within_put}
use Rattle.build_object.proofs.statements.+statement.Goals as goal

pub statement-returns-in-Empty : goal.statement-returns-in-Empty
unfolding statement_lines stmt_view
statement-returns-in-Empty t c = puts_as (ap (λ v.
    statement_lines (source_of c.args.scope.source.now) c.args.scope.slots.now.places.items c.args.results
    (exits_of c.args.marks (length (lines_in c.args.code.now))) (stmt_view v)) c.in-Empty.is) (puts_none _)

pub statement-returns-in-Var : goal.statement-returns-in-Var
unfolding statement_lines stmt_view
statement-returns-in-Var t c = on_ok_weaker c.locals.result
    (λ q. puts_as (ap (λ v. statement_lines (source_of c.args.scope.source.now) c.args.scope.slots.now.places.items c.args.results
    (exits_of c.args.marks (length (lines_in c.args.code.now))) (stmt_view v)) c.in-Var.is ∙
    ap (λ g. flat_map (local_lines (source_of c.args.scope.source.now) c.args.scope.slots.now.places.items) (group_items (group_view local_view g)))
    (sym c.deref.ensures)) q) c.locals.ensures

pub statement-returns-in-Simple : goal.statement-returns-in-Simple
unfolding statement_lines stmt_view
statement-returns-in-Simple t c = on_ok_weaker c.simple.result
    (λ q. puts_as (ap (λ v. statement_lines (source_of c.args.scope.source.now) c.args.scope.slots.now.places.items c.args.results
    (exits_of c.args.marks (length (lines_in c.args.code.now))) (stmt_view v)) c.in-Simple.is) q) c.simple.ensures

pub statement-returns-in-Block : goal.statement-returns-in-Block
unfolding statement_lines stmt_view
statement-returns-in-Block t c = on_ok_weaker c.block.result
    (λ q. puts_as (ap (λ v. statement_lines (source_of c.args.scope.source.now) c.args.scope.slots.now.places.items c.args.results
    (exits_of c.args.marks (length (lines_in c.args.code.now))) (stmt_view v)) c.in-Block.is) q) c.block.ensures

pub statement-returns-in-If : goal.statement-returns-in-If
unfolding statement_lines stmt_view
statement-returns-in-If t c = on_ok_weaker c.branches.result
    (λ q. puts_as (ap (λ v. statement_lines (source_of c.args.scope.source.now) c.args.scope.slots.now.places.items c.args.results
    (exits_of c.args.marks (length (lines_in c.args.code.now))) (stmt_view v)) c.in-If.is ∙
    ap (λ z. if_lines (source_of c.args.scope.source.now) c.args.scope.slots.now.places.items c.args.results
    (exits_of c.args.marks (length (lines_in c.args.code.now))) (if_view z)) (sym c.deref-in-If.ensures)) q) c.branches.ensures

pub statement-returns-in-Break : goal.statement-returns-in-Break
unfolding statement_lines stmt_view
statement-returns-in-Break t c = on_ok_weaker c.put_exit.result
    (λ q. puts_as (ap (λ v. statement_lines (source_of c.args.scope.source.now) c.args.scope.slots.now.places.items c.args.results
    (exits_of c.args.marks (length (lines_in c.args.code.now))) (stmt_view v)) c.in-Break.is) q) c.put_exit.ensures

pub statement-returns-in-Continue : goal.statement-returns-in-Continue
unfolding statement_lines stmt_view
statement-returns-in-Continue t c = on_ok_weaker c.put_exit-in-Continue.result
    (λ q. puts_as (ap (λ v. statement_lines (source_of c.args.scope.source.now) c.args.scope.slots.now.places.items c.args.results
    (exits_of c.args.marks (length (lines_in c.args.code.now))) (stmt_view v)) c.in-Continue.is) q) c.put_exit-in-Continue.ensures

pub statement-returns-in-Return : goal.statement-returns-in-Return
unfolding statement_lines stmt_view
statement-returns-in-Return t c = on_ok_weaker c.returned.result
    (λ q. puts_as (ap (λ v. statement_lines (source_of c.args.scope.source.now) c.args.scope.slots.now.places.items c.args.results
    (exits_of c.args.marks (length (lines_in c.args.code.now))) (stmt_view v)) c.in-Return.is ∙
    ap (λ xs. lines_of_values (source_of c.args.scope.source.now) c.args.scope.slots.now.places.items (exprs_view xs) ++ (Return c.args.results ∷ []))
    (sym c.deref-in-Return.ensures.value)) q) c.returned.ensures

pub statement-returns-in_ok-turns-in-For : goal.statement-returns-in_ok-turns-in-For
unfolding statement_lines stmt_view
statement-returns-in_ok-turns-in-For t c = on_ok_weaker c.header_init.result
    (λ q. puts_as (for_taken (source_of c.args.scope.source.now) c.args.scope.slots.now.places.items c.args.results
    (exits_of c.args.marks (length (lines_in c.args.code.now))) _ _ _ c.in-For.is _ _ c.deref-in-For.ensures c.deref-in-For-2.ensures) (puts_then
    c.in_ok-turns-in-For.ensures q)) c.header_init.ensures

pub turns-block-requires : goal.turns-block-requires
turns-block-requires t c =
    let h = puts_length c.in_ok-put.ensures in
    let k = puts_length c.in_ok-post.ensures in
    (search rules, record { next = omega arith; out = omega arith })

pub turns-header_condition-requires : goal.turns-header_condition-requires
turns-header_condition-requires t c =
    let h = puts_length c.in_ok-put.ensures in
    let k = puts_length c.in_ok-post.ensures in
    let m = puts_length c.in_ok-block.ensures in
    omega arith

pub turns-turn_back-requires : goal.turns-turn_back-requires
turns-turn_back-requires t c =
    let h = puts_length c.in_ok-put.ensures in
    let k = puts_length c.in_ok-post.ensures in
    let m = puts_length c.in_ok-block.ensures in
    let n = puts_length c.in_ok-header_condition.ensures in
    omega arith

pub turns-returns : goal.turns-returns
turns-returns t c = turns_put (source_of c.args.scope.source.now) c.args.scope.slots.now.places.items c.args.results (block_view c.args.body.now)
    (for_condition (for_view c.args.header.now))
    (for_post (source_of c.args.scope.source.now) c.args.scope.slots.now.places.items (for_view c.args.header.now)) _
    (record { next = c.len-next.result; out = c.len-out.result }) c.len-out.ensures c.len-next.ensures c.in_ok-put.ensures c.in_ok-post.ensures
    c.in_ok-block.ensures c.in_ok-header_condition.ensures c.turn_back.ensures

pub block-returns : goal.block-returns
block-returns t c = on_ok_weaker c.each.result (λ q.
    puts_as (sym (block_read (source_of c.args.scope.source.now) c.args.scope.slots.now.places.items c.args.results
    (exits_of c.args.marks (length (lines_in c.args.code.now))) c.args.inner.now _ c.deref.ensures.value)) q) c.each.ensures

pub each-loop-i-init : goal.each-loop-i-init
each-loop-i-init t c = puts_as (ap (lines_of_each (source_of c.args.scope.source.now) c.args.scope.slots.now.places.items c.args.results
    (exits_of c.args.marks (length (lines_in c.args.code.now)))) (back_start c.args.list.now _ (omega arith)) ∙
    each_end (source_of c.args.scope.source.now) c.args.scope.slots.now.places.items c.args.results
    (exits_of c.args.marks (length (lines_in c.args.code.now)))) (puts_none _)

pub each-statement-requires : goal.each-statement-requires
each-statement-requires t c = (search (rules, stmts.the_lemmas), within_put c.requires c.loop-i.invariant)

pub each-loop-i-preserved : goal.each-loop-i-preserved
each-loop-i-preserved t c = each_turn (source_of c.args.scope.source.now) c.args.scope.slots.now.places.items c.args.results c.args.marks c.args.list.now _
    _ (omega arith) (omega arith) (ap (get_or c.args.list.now (c.loop-i.i - 1)) c.index-list-i.is) c.requires c.loop-i.invariant c.in_ok-statement.ensures

pub each-returns : goal.each-returns
each-returns t c = puts_as (ap (lines_of_each (source_of c.args.scope.source.now) c.args.scope.slots.now.places.items c.args.results
    (exits_of c.args.marks (length (lines_in c.args.code.now)))) (sym (back_end c.args.list.now c.loop-i.i (omega arith)))) c.loop-i.invariant

pub branches-put_jump_over-requires : goal.branches-put_jump_over-requires
branches-put_jump_over-requires t c = let h = else_grows c.in_ok-has_else.ensures in omega arith

pub branches-block-requires : goal.branches-block-requires
branches-block-requires t c =
    let h = else_grows c.in_ok-has_else.ensures in
    let k = puts_length c.in_ok-put_jump_over.ensures in
    (search (rules, ifs.the_lemmas), within_more (omega arith) c.requires)

pub branches-test-requires : goal.branches-test-requires
branches-test-requires t c =
    let k = puts_length c.in_ok-put_jump_over.ensures in
    let m = puts_length c.in_ok-block.ensures in
    omega arith

pub branches-returns : goal.branches-returns
branches-returns t c = on_ok_weaker c.init.result
    (λ q. if_put (source_of c.args.scope.source.now) c.args.scope.slots.now.places.items c.args.results c.args.marks c.args.branch.now c.len-end.result
    c.len-skipped.result _ c.requires c.len-end.ensures c.len-skipped.ensures c.in_ok-has_else.ensures c.in_ok-put_jump_over.ensures
    c.in_ok-block.ensures c.in_ok-test.ensures q) c.init.ensures

pub otherwise-returns-in-None : goal.otherwise-returns-in-None
unfolding else_lines else_view
otherwise-returns-in-None t c = else_as (ap (λ v. else_lines (source_of c.args.scope.source.now) c.args.scope.slots.now.places.items c.args.results
    (exits_of c.args.marks (length (lines_in c.args.code.now))) (else_view v)) c.in-None.is) (else_nothing _)

pub otherwise-returns-in_ok-branches-in-If : goal.otherwise-returns-in_ok-branches-in-If
unfolding else_lines else_view
otherwise-returns-in_ok-branches-in-If t c = else_as
    (ap (λ v. else_lines (source_of c.args.scope.source.now) c.args.scope.slots.now.places.items c.args.results
    (exits_of c.args.marks (length (lines_in c.args.code.now))) (else_view v)) c.in-If.is ∙
    ap (λ z. Some (if_lines (source_of c.args.scope.source.now) c.args.scope.slots.now.places.items c.args.results
    (exits_of c.args.marks (length (lines_in c.args.code.now))) (if_view z))) (sym c.deref.ensures)) (else_something c.in_ok-branches-in-If.ensures)

pub otherwise-returns-in_ok-block-in-Block : goal.otherwise-returns-in_ok-block-in-Block
unfolding else_lines else_view
otherwise-returns-in_ok-block-in-Block t c = else_as
    (ap (λ v. else_lines (source_of c.args.scope.source.now) c.args.scope.slots.now.places.items c.args.results
    (exits_of c.args.marks (length (lines_in c.args.code.now))) (else_view v)) c.in-Block.is) (else_something c.in_ok-block-in-Block.ensures)
