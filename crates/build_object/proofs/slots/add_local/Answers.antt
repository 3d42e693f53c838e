-- The answers to the goals of `slots::add_local`.
use Rattle.std.proofs.Common.{◌++◌, ap, ◌∙◌, refl}
use Rattle.std.specs.Prelude.{option_to_list}
use Rattle.go_ast.specs.View.{ident_view}
use Rattle.go_ast.specs.FileView.{local_view}
use Rattle.types_stmt.specs.Sides.{named}
use Rattle.build_object.proofs.Loops.{rest_at, rest_end}
use Rattle.build_object.proofs.Parts.{named_places}
use Rattle.build_object.proofs.slots.add_local.Goals as goal

pub loop-name-preserved : goal.loop-name-preserved
loop-name-preserved c =
    rest_at named_places (λ x. option_to_list (named (ident_view x.value))) (λ x xs. refl) _ c.loop-name.places.items c.add_ident.new.places.items
    c.deref-name-items.result.now c.loop-name.name-index _ c.loop-name-test.true c.loop-name.invariant c.in_ok-add_ident.ensures

pub returns : goal.returns
unfolding local_view
returns c = rest_end named_places refl _ c.loop-name.places.items c.deref-name-items.result.now c.loop-name.name-index c.loop-name-test.false
    c.loop-name.invariant
    ∙ ap (λ xs. c.args.places.now.items ++ named_places xs) c.deref-name-items.ensures.value
