-- The answers to the goals of `checked::CheckedBody::check_params`.
use Rattle.std.proofs.Common.{◌+◌, ap, sym, ◌∙◌, drop}
use Rattle.std.proofs.Math.ListN.{drop_of_length-le}
use Rattle.go_ast.specs.View.{list_view}
use Rattle.go_ast.specs.FileView.{param_view}
use Rattle.types_expr.specs.WorldView.{world_of}
use Rattle.types_stmt.specs.Checked.{check_items}
use Rattle.types_stmt.specs.Headers.{check_param}
use Rattle.types_stmt.specs.View.{checked_of}
use Rattle.types_expr.proofs.Items.{next_item}
use Rattle.types_stmt.proofs.ListEquations.{items_step, items_end}
use Rattle.types_stmt.proofs.checked.CheckedBody.check_params.Goals as goal

pub loop-item-preserved : goal.loop-item-preserved
loop-item-preserved c =
    ap (λ s. check_items (check_param (world_of c.args.world.now)) s (list_view param_view (drop (c.loop-item.item-index + 1) c.args.params.now)))
    c.in_ok-check_param.ensures
    ∙ (sym (ap (λ xs. check_items (check_param (world_of c.args.world.now)) (checked_of c.loop-item.self) (list_view param_view xs))
    (next_item _ _ _ c.loop-item-test.true c.item-item.is) ∙
    items_step (check_param (world_of c.args.world.now)) param_view (checked_of c.loop-item.self) c.item-item.result _) ∙ c.loop-item.invariant)

pub returns : goal.returns
returns c =
    sym (ap (λ xs. check_items (check_param (world_of c.args.world.now)) (checked_of c.loop-item.self) (list_view param_view xs))
    (drop_of_length-le _ c.loop-item-test.false) ∙ items_end (check_param (world_of c.args.world.now)) param_view (checked_of c.loop-item.self)) ∙
    c.loop-item.invariant
