-- The invariants of the loops of `checked::CheckedBody::check_params`.
use Rattle.std.proofs.Common.{◌≡◌, drop}
use Rattle.go_ast.specs.View.{list_view}
use Rattle.go_ast.specs.FileView.{param_view}
use Rattle.types_expr.specs.WorldView.{world_of}
use Rattle.types_stmt.specs.Checked.{check_items}
use Rattle.types_stmt.specs.Headers.{check_param}
use Rattle.types_stmt.specs.View.{checked_of}
use Rattle.types_stmt.proofs.checked.CheckedBody.check_params.Given as goal

abbrev pub invariant-loop-item : goal.invariant-loop-item
invariant-loop-item l =
    check_items (check_param (world_of l.world)) (checked_of l.self) (list_view param_view (drop l.item-index l.params)) ≡ check_items
    (check_param (world_of l.world)) (checked_of l.initial.self) (list_view param_view l.params)
