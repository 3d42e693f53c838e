-- The answers to the goals of `names::field_positions`.
use Rattle.std.proofs.Common.{map, refl}
use Rattle.std.specs.List.{flat_map}
use Rattle.go_ast.specs.FileView.{type_spec_view}
use Rattle.types_declared.specs.DeclaredView.{type_of}
use Rattle.build_object.specs.Names.{type_positions}
use Rattle.build_object.proofs.Loops.{rest_step, rest_end}
use Rattle.build_object.proofs.names.field_positions.Goals as goal

pub loop-own-preserved : goal.loop-own-preserved
unfolding type_spec_view
loop-own-preserved c =
    rest_step (λ ts. flat_map type_positions (map type_of ts)) (λ t. type_positions (type_of t)) (λ x xs. refl) _ c.loop-own.positions.items
    c.add_body.new.positions.items c.args.types.now c.loop-own.own-index c.own-item.result
    c.loop-own-test.true c.own-item.is c.loop-own.invariant c.in_ok-add_body.ensures

pub returns : goal.returns
returns c = rest_end (λ ts. flat_map type_positions (map type_of ts)) refl _ c.loop-own.positions.items c.args.types.now c.loop-own.own-index
    c.loop-own-test.false c.loop-own.invariant
