-- The answers to the goals of `simple::each_local`.
use Rattle.std.proofs.Common.{◌-◌, ap, refl, get_or, arith}
use Rattle.std.specs.List.{flat_map}
use Rattle.go_ast.specs.View.{list_view}
use Rattle.go_ast.specs.FileView.{local_view}
use Rattle.build_object.specs.SourceView.{source_of}
use Rattle.build_object.specs.Statements.{local_lines}
use Rattle.build_object.proofs.Loops.{back_turn}
use Rattle.build_object.proofs.simple.each_local.Goals as goal

pub loop-i-preserved : goal.loop-i-preserved
loop-i-preserved c = back_turn (λ xs. flat_map (λ i. local_lines (source_of c.args.scope.source.now) c.args.scope.slots.now.places.items i.value)
    (list_view local_view xs)) (λ x. local_lines (source_of c.args.scope.source.now) c.args.scope.slots.now.places.items (local_view x.value))
    (λ x xs. refl) c.args.items.now _ _ (omega arith) (omega arith) (ap (get_or c.args.items.now (c.loop-i.i - 1)) c.index-items-i.is) c.loop-i.invariant
    c.in_ok-local.ensures
