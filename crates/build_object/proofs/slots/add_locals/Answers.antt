-- The answers to the goals of `slots::add_locals`.
use Rattle.std.proofs.Common.{◌++◌, ap, sym, ◌∙◌, refl}
use Rattle.std.specs.List.{flat_map}
use Rattle.go_ast.specs.View.{group_view}
use Rattle.go_ast.specs.FileView.{local_view}
use Rattle.types_declared.specs.Files.{group_items}
use Rattle.build_object.specs.Slots.{local_places}
use Rattle.build_object.proofs.Loops.{rest_step, rest_end}
use Rattle.build_object.proofs.Parts.{local_list_places, several_places}
use Rattle.build_object.proofs.slots.add_locals.Goals as goal

pub loop-item-preserved : goal.loop-item-preserved
loop-item-preserved c =
    rest_step local_list_places (λ x. local_places (local_view x.value)) (λ x xs. refl) _ c.loop-item.places.items
    c.add_local-in-loop-item.new.places.items c.deref-item-items.result.now c.loop-item.item-index c.item-item.result c.loop-item-test.true c.item-item.is
    c.loop-item.invariant c.in_ok-add_local-in-Several.ensures

pub returns-after-loop-item : goal.returns-after-loop-item
unfolding group_view
returns-after-loop-item c = rest_end local_list_places refl _ c.loop-item.places.items c.deref-item-items.result.now c.loop-item.item-index
    c.loop-item-test.false c.loop-item.invariant
    ∙ ap (λ z. c.args.places.now.items ++ z) (ap local_list_places c.deref-item-items.ensures.value ∙
    (several_places c.in-Several.items.items ∙ ap (λ g. flat_map local_places (group_items (group_view local_view g))) (sym c.in-Several.is)))
