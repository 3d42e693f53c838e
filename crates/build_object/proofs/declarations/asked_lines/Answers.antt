-- The answers to the goals of `declarations::asked_lines`.
use Rattle.std.proofs.Common.{map, refl}
use Rattle.go_ast.specs.View.{list_view}
use Rattle.go_ast.specs.FileView.{method_view}
use Rattle.types_expr.specs.WorldView.{world_of}
use Rattle.build_object.specs.DeclarationsView.{asked_view}
use Rattle.build_object.specs.Objects.{asked_methods, object_asked}
use Rattle.build_object.specs.SourceView.{source_of}
use Rattle.build_object.proofs.Loops.{rest_step, rest_end}
use Rattle.build_object.proofs.declarations.asked_lines.Goals as goal

pub loop-method-preserved : goal.loop-method-preserved
loop-method-preserved c =
    let w = world_of c.args.source.now.world in
    let asks = (source_of c.args.source.now).asks in
    rest_step (λ ms. asked_methods w asks (list_view method_view ms))
    (λ x. object_asked w (method_view x.value) (asks (method_view x.value).name)) (λ x xs. refl) _
    (map asked_view c.loop-method.lines.items) (map asked_view c.add_asked.new.lines.items) c.args.methods.now c.loop-method.method-index
    c.method-item.result c.loop-method-test.true c.method-item.is c.loop-method.invariant c.in_ok-add_asked.ensures

pub returns : goal.returns
returns c =
    rest_end (λ ms. asked_methods (world_of c.args.source.now.world) (source_of c.args.source.now).asks (list_view method_view ms)) refl _
    (map asked_view c.loop-method.lines.items) c.args.methods.now c.loop-method.method-index c.loop-method-test.false c.loop-method.invariant
