-- The answers to the goals of `slots::add_names`.
use Rattle.std.proofs.Common.{◌∷◌, ◌++◌, [], ap, ◌∙◌, refl}
use Rattle.go_ast.specs.View.{ident_view}
use Rattle.types_stmt.specs.Sides.{ident_place}
use Rattle.build_object.proofs.Loops.{rest_at, rest_end}
use Rattle.build_object.proofs.Parts.{name_places}
use Rattle.build_object.proofs.slots.add_names.Goals as goal

pub loop-name-preserved : goal.loop-name-preserved
loop-name-preserved c =
    rest_at name_places (λ x. ident_place (ident_view x.value) ∷ []) (λ x xs. refl) _ c.loop-name.places.items c.push.new.self.items c.args.names.now
    c.loop-name.name-index _
    c.loop-name-test.true c.loop-name.invariant (c.in_ok-push.ensures.items ∙ ap (λ p. c.loop-name.places.items ++ (p ∷ [])) c.ident_place.ensures)

pub returns : goal.returns
returns c = rest_end name_places refl _ c.loop-name.places.items c.args.names.now c.loop-name.name-index c.loop-name-test.false c.loop-name.invariant
