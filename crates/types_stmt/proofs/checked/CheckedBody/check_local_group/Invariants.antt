-- The invariants of the loops of `checked::CheckedBody::check_local_group`.
use Rattle.std.proofs.Common.{◌≡◌, drop}
use Rattle.go_ast.specs.View.{list_view}
use Rattle.go_ast.specs.FileView.{local_view}
use Rattle.types_expr.specs.WorldView.{world_of}
use Rattle.types_stmt.specs.Checked.{check_items}
use Rattle.types_stmt.specs.Simple.{check_local}
use Rattle.types_stmt.specs.View.{checked_of}
use Rattle.types_stmt.proofs.checked.CheckedBody.check_local_group.Given as goal

abbrev pub invariant-loop-item : goal.invariant-loop-item
invariant-loop-item l =
    check_items (check_local (world_of l.world)) (checked_of l.self) (list_view local_view (drop l.item-index l.item-items)) ≡ check_items
    (check_local (world_of l.world)) (checked_of l.initial.self) (list_view local_view l.item-items)
