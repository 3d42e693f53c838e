-- The invariants of the loops of `checked::CheckedBody::statement`.
use Rattle.std.proofs.Common.{◌≡◌, drop, map}
use Rattle.types_expr.specs.WorldView.{world_of}
use Rattle.types_stmt.specs.View.{checked_of, target_of}
use Rattle.types_stmt.proofs.Blocks.{check_each}
use Rattle.types_stmt.proofs.checked.CheckedBody.+statement.Given as goal

abbrev pub invariant-check_block-loop-item : goal.invariant-check_block-loop-item
invariant-check_block-loop-item l =
    check_each (world_of l.world) (map target_of l.results) (checked_of l.self) (drop l.item-index l.item-items) ≡ check_each (world_of l.world)
    (map target_of l.results) (checked_of l.initial.self) l.item-items
