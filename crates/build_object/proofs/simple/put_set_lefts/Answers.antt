-- The answers to the goals of `simple::put_set_lefts`.
use Rattle.go_ast.specs.View.{expr_item_view}
use Rattle.build_object.specs.SourceView.{source_of}
use Rattle.build_object.specs.Statements.{set_left}
use Rattle.build_object.proofs.Putting.{puts_none, puts_as}
use Rattle.build_object.proofs.Loops.{from_last_none, taken_step}
use Rattle.build_object.proofs.simple.put_set_lefts.Goals as goal

pub loop-item-init : goal.loop-item-init
loop-item-init c = puts_as (from_last_none (set_left (source_of c.args.scope.source.now) c.args.scope.slots.now.places.items)) (puts_none _)

pub loop-item-preserved : goal.loop-item-preserved
loop-item-preserved c = taken_step (set_left (source_of c.args.scope.source.now) c.args.scope.slots.now.places.items) expr_item_view c.args.left.now
    c.loop-item.item-index _ c.loop-item-test.true c.item-item.is c.loop-item.invariant c.in_ok-put_set_left.ensures
