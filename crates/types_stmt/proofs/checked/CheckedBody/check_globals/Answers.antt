-- The answers to the goals of `checked::CheckedBody::check_globals`.
use Rattle.std.proofs.Common.{◌+◌, ap, sym, ◌∙◌, drop}
use Rattle.std.proofs.lemmas.Result.{on_ok_weaker}
use Rattle.std.proofs.Math.ListN.{drop_of_length-le}
use Rattle.go_ast.specs.View.{list_view, group_view}
use Rattle.go_ast.specs.FileView.{global_view}
use Rattle.types_expr.specs.WorldView.{world_of}
use Rattle.types_stmt.specs.Checked.{check_items, check_group}
use Rattle.types_stmt.specs.Declarations.{check_global}
use Rattle.types_stmt.specs.View.{checked_of}
use Rattle.types_expr.proofs.Items.{next_item}
use Rattle.types_stmt.proofs.ListEquations.{items_step, items_end}
use Rattle.types_stmt.proofs.checked.CheckedBody.check_globals.Goals as goal

pub returns-in-Single : goal.returns-in-Single
unfolding check_group group_view
returns-in-Single c = on_ok_weaker c.check_global.result
    (λ q. q ∙ ap (λ v. check_group (check_global (world_of c.args.world.now)) (checked_of c.args.self.now) (group_view global_view v)) (sym c.in-Single.is))
    c.check_global.ensures

pub loop-item-preserved : goal.loop-item-preserved
loop-item-preserved c =
    ap (λ s. check_items (check_global (world_of c.args.world.now)) s
    (list_view global_view (drop (c.loop-item.item-index + 1) c.deref-item-items.result.now))) c.in_ok-check_global-in-Several.ensures
    ∙ (sym (ap (λ xs. check_items (check_global (world_of c.args.world.now)) (checked_of c.loop-item.self) (list_view global_view xs))
    (next_item _ _ _ c.loop-item-test.true c.item-item.is) ∙
    items_step (check_global (world_of c.args.world.now)) global_view (checked_of c.loop-item.self) c.item-item.result _) ∙ c.loop-item.invariant)

pub returns-after-loop-item : goal.returns-after-loop-item
unfolding check_group group_view
returns-after-loop-item c =
    sym (ap (λ xs. check_items (check_global (world_of c.args.world.now)) (checked_of c.loop-item.self) (list_view global_view xs))
    (drop_of_length-le _ c.loop-item-test.false) ∙ items_end (check_global (world_of c.args.world.now)) global_view (checked_of c.loop-item.self))
    ∙ (c.loop-item.invariant ∙ (ap (λ xs. check_items (check_global (world_of c.args.world.now)) (checked_of c.args.self.now) (list_view global_view xs))
    c.deref-item-items.ensures.value ∙
    ap (λ v. check_group (check_global (world_of c.args.world.now)) (checked_of c.args.self.now) (group_view global_view v)) (sym c.in-Several.is)))
