-- The invariants of the loops of `checked::CheckedBody::check_types`.
use Rattle.std.proofs.Common.{◌≡◌, drop}
use Rattle.go_ast.specs.View.{list_view}
use Rattle.go_ast.specs.FileView.{type_spec_view}
use Rattle.types_expr.specs.WorldView.{world_of}
use Rattle.types_stmt.specs.Checked.{check_items}
use Rattle.types_stmt.specs.Declarations.{check_type}
use Rattle.types_stmt.specs.View.{checked_of}
use Rattle.types_stmt.proofs.checked.CheckedBody.check_types.Given as goal

abbrev pub invariant-loop-item : goal.invariant-loop-item
invariant-loop-item l =
    check_items (check_type (world_of l.world)) (checked_of l.self) (list_view type_spec_view (drop l.item-index l.item-items)) ≡ check_items
    (check_type (world_of l.world)) (checked_of l.initial.self) (list_view type_spec_view l.item-items)
