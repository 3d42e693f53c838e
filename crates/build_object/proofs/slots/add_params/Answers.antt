-- The answers to the goals of `slots::add_params`.
use Rattle.std.proofs.Common.{◌++◌, ap, ◌∙◌, refl}
use Rattle.go_ast.specs.FileView.{param_view}
use Rattle.build_object.proofs.Loops.{rest_step, rest_end}
use Rattle.build_object.proofs.Parts.{name_places, param_places}
use Rattle.build_object.proofs.slots.add_params.Goals as goal

pub loop-param-preserved : goal.loop-param-preserved
unfolding param_view
loop-param-preserved c =
    rest_step param_places (λ x. name_places x.value.names.items) (λ x xs. refl) _ c.loop-param.places.items c.add_names.new.places.items c.args.params.now
    c.loop-param.param-index c.param-item.result
    c.loop-param-test.true c.param-item.is c.loop-param.invariant
    (c.in_ok-add_names.ensures ∙ ap (λ xs. c.loop-param.places.items ++ name_places xs) c.deref.ensures.value)

pub returns : goal.returns
returns c = rest_end param_places refl _ c.loop-param.places.items c.args.params.now c.loop-param.param-index c.loop-param-test.false c.loop-param.invariant
