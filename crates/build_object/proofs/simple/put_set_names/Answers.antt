-- The answers to the goals of `simple::put_set_names`.
use Rattle.go_ast.specs.View.{item_view, ident_view}
use Rattle.build_object.specs.Statements.{set_name}
use Rattle.build_object.proofs.Putting.{puts_none, puts_as}
use Rattle.build_object.proofs.Loops.{from_last_none, taken_at}
use Rattle.build_object.proofs.simple.put_set_names.Goals as goal

pub loop-name-init : goal.loop-name-init
loop-name-init c = puts_as (from_last_none (set_name c.args.scope.slots.now.places.items)) (puts_none _)

pub loop-name-preserved : goal.loop-name-preserved
loop-name-preserved c = taken_at (set_name c.args.scope.slots.now.places.items) (item_view ident_view) c.args.names.now c.loop-name.name-index _
    c.loop-name-test.true c.loop-name.invariant c.in_ok-put_set_name.ensures
