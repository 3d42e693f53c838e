-- The answers to the goals of `slots::places`.
use Rattle.std.proofs.Common.{◌++◌, ap, sym, ◌∙◌, append-nil}
use Rattle.std.specs.List.{flat_map}
use Rattle.std.proofs.lemmas.Result.{on_ok_weaker}
use Rattle.go_ast.specs.View.{group_view}
use Rattle.go_ast.specs.FileView.{for_view, local_view, stmt_view, block_view, if_view, else_view}
use Rattle.types_expr.specs.WorldView.{world_of}
use Rattle.types_declared.specs.Files.{group_items}
use Rattle.build_object.specs.Slots.{header_places, local_places, statement_places, block_places, if_places, else_places}
use Rattle.build_object.proofs.Loops.{rest_step, rest_end}
use Rattle.build_object.proofs.Places.{places_of_each, each_step, each_end, block_read, if_from, added}
use Rattle.build_object.proofs.slots.+places.Goals as goal

pub add_statement-returns-in-Empty : goal.add_statement-returns-in-Empty
unfolding statement_places stmt_view
add_statement-returns-in-Empty t c = sym (append-nil c.args.places.now.items) ∙
    ap (λ v. c.args.places.now.items ++ statement_places (world_of c.args.world.now) (stmt_view v)) (sym c.in-Empty.is)

pub add_statement-returns-in-Break : goal.add_statement-returns-in-Break
unfolding statement_places stmt_view
add_statement-returns-in-Break t c = sym (append-nil c.args.places.now.items) ∙
    ap (λ v. c.args.places.now.items ++ statement_places (world_of c.args.world.now) (stmt_view v)) (sym c.in-Break.is)

pub add_statement-returns-in-Continue : goal.add_statement-returns-in-Continue
unfolding statement_places stmt_view
add_statement-returns-in-Continue t c = sym (append-nil c.args.places.now.items) ∙
    ap (λ v. c.args.places.now.items ++ statement_places (world_of c.args.world.now) (stmt_view v)) (sym c.in-Continue.is)

pub add_statement-returns-in-Return : goal.add_statement-returns-in-Return
unfolding statement_places stmt_view
add_statement-returns-in-Return t c = sym (append-nil c.args.places.now.items) ∙
    ap (λ v. c.args.places.now.items ++ statement_places (world_of c.args.world.now) (stmt_view v)) (sym c.in-Return.is)

pub add_statement-returns-in-Var : goal.add_statement-returns-in-Var
unfolding statement_places stmt_view
add_statement-returns-in-Var t c = on_ok_weaker c.add_locals.result
    (λ q. q ∙ (ap (λ g. c.args.places.now.items ++ flat_map local_places (group_items (group_view local_view g))) c.deref.ensures ∙
    ap (λ v. c.args.places.now.items ++ statement_places (world_of c.args.world.now) (stmt_view v)) (sym c.in-Var.is))) c.add_locals.ensures

pub add_statement-returns-in-Simple : goal.add_statement-returns-in-Simple
unfolding statement_places stmt_view
add_statement-returns-in-Simple t c = on_ok_weaker c.add_simple.result
    (λ q. q ∙ ap (λ v. c.args.places.now.items ++ statement_places (world_of c.args.world.now) (stmt_view v)) (sym c.in-Simple.is)) c.add_simple.ensures

pub add_statement-returns-in-Block : goal.add_statement-returns-in-Block
unfolding statement_places stmt_view
add_statement-returns-in-Block t c = on_ok_weaker c.add_block.result
    (λ q. q ∙ ap (λ v. c.args.places.now.items ++ statement_places (world_of c.args.world.now) (stmt_view v)) (sym c.in-Block.is)) c.add_block.ensures

pub add_statement-returns-in-If : goal.add_statement-returns-in-If
unfolding statement_places stmt_view
add_statement-returns-in-If t c = on_ok_weaker c.add_if.result
    (λ q. q ∙ (ap (λ z. c.args.places.now.items ++ if_places (world_of c.args.world.now) (if_view z)) c.deref-in-If.ensures ∙
    ap (λ v. c.args.places.now.items ++ statement_places (world_of c.args.world.now) (stmt_view v)) (sym c.in-If.is))) c.add_if.ensures

pub add_statement-returns-in_ok-add_header-in-For : goal.add_statement-returns-in_ok-add_header-in-For
unfolding statement_places stmt_view
add_statement-returns-in_ok-add_header-in-For t c =
    on_ok_weaker c.add_block-in-For.result (λ q. added _ _ _ c.in_ok-add_header-in-For.ensures q ∙
    ap (λ h. c.args.places.now.items ++ (header_places (world_of c.args.world.now) (for_view h) ++ block_places (world_of c.args.world.now)
    (block_view c.in-For.body))) c.deref-in-For.ensures ∙
    ap (λ v. c.args.places.now.items ++ statement_places (world_of c.args.world.now) (stmt_view v)) (sym c.in-For.is)) c.add_block-in-For.ensures

pub add_block-loop-item-preserved : goal.add_block-loop-item-preserved
add_block-loop-item-preserved t c =
    rest_step (places_of_each (world_of c.args.world.now)) (λ i. statement_places (world_of c.args.world.now) (stmt_view i.statement))
    (each_step (world_of c.args.world.now)) _ c.loop-item.places.items c.add_statement.new.places.items
    c.deref-item-items.result.now c.loop-item.item-index c.item-item.result c.loop-item-test.true c.item-item.is c.loop-item.invariant
    c.in_ok-add_statement.ensures

pub add_block-returns : goal.add_block-returns
add_block-returns t c =
    rest_end (places_of_each (world_of c.args.world.now)) (each_end (world_of c.args.world.now)) _ c.loop-item.places.items c.deref-item-items.result.now
    c.loop-item.item-index c.loop-item-test.false c.loop-item.invariant
    ∙ ap (λ z. c.args.places.now.items ++ z) (block_read (world_of c.args.world.now) c.args.block.now _ c.deref-item-items.ensures.value)

pub add_if-returns : goal.add_if-returns
add_if-returns t c =
    on_ok_weaker c.add_else.result (λ q. added _ _ c.args.places.now.items c.in_ok-add_init.ensures
    (added _ _ c.add_init.new.places.items c.in_ok-add_block.ensures q) ∙
    ap (λ z. c.args.places.now.items ++ z) (if_from (world_of c.args.world.now) c.args.branch.now)) c.add_else.ensures

pub add_else-returns-in-None : goal.add_else-returns-in-None
unfolding else_places else_view
add_else-returns-in-None t c = sym (append-nil c.args.places.now.items) ∙
    ap (λ v. c.args.places.now.items ++ else_places (world_of c.args.world.now) (else_view v)) (sym c.in-None.is)

pub add_else-returns-in-If : goal.add_else-returns-in-If
unfolding else_places else_view
add_else-returns-in-If t c = on_ok_weaker c.add_if.result
    (λ q. q ∙ (ap (λ z. c.args.places.now.items ++ if_places (world_of c.args.world.now) (if_view z)) c.deref.ensures ∙
    ap (λ v. c.args.places.now.items ++ else_places (world_of c.args.world.now) (else_view v)) (sym c.in-If.is))) c.add_if.ensures

pub add_else-returns-in-Block : goal.add_else-returns-in-Block
unfolding else_places else_view
add_else-returns-in-Block t c = on_ok_weaker c.add_block.result
    (λ q. q ∙ ap (λ v. c.args.places.now.items ++ else_places (world_of c.args.world.now) (else_view v)) (sym c.in-Block.is)) c.add_block.ensures
