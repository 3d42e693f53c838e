-- The answers to the goals of `names::add_asked_names`.
use Rattle.std.proofs.Common.{ℕ, ◌∷◌, ◌++◌, [], ◌∙◌, ap, map, refl}
use Rattle.std.proofs.lemmas.List.{map-append}
use Rattle.go_ast.specs.View.{list_view}
use Rattle.go_ast.specs.FileView.{method_view}
use Rattle.go_ast.specs.SourceFile.{source_of}
use Rattle.build_object.specs.LineView.{global_of}
use Rattle.build_object.specs.Lines.{FunctionName, Method}
use Rattle.build_object.specs.Names.{asked_names_of, spelled_in}
use Rattle.build_object.specs.Names as spec
use Rattle.build_object.specs.SourceView.{asked_of}
use Rattle.build_object.proofs.Loops.{rest_step, rest_end}
use Rattle.build_object.proofs.names.add_asked_names.Goals as goal

one : ℕ → FunctionName → spec.MethodAsked
one place name = record { place = place; name = name }

pub loop-method-preserved : goal.loop-method-preserved
unfolding method_view one
loop-method-preserved c =
    let files = map source_of c.args.files.now in
    let of = global_of c.args.of in
    let place = c.method-item.result.value.name in
    rest_step (λ ms. asked_names_of of files c.args.file (list_view method_view ms))
    (λ x. record { place = x.value.name; name = Method of (spelled_in files c.args.file x.value.name) } ∷ []) (λ x xs. refl) _
    (map asked_of c.loop-method.asked.items) (map asked_of c.push.new.self.items) c.args.methods.now c.loop-method.method-index c.method-item.result
    c.loop-method-test.true c.method-item.is c.loop-method.invariant
    (ap (map asked_of) c.in_ok-push.ensures.items ∙ (map-append asked_of c.loop-method.asked.items _
    ∙ ap (λ n. map asked_of c.loop-method.asked.items ++ (one place n ∷ [])) c.asked_name-name.ensures))

pub returns : goal.returns
returns c =
    let files = map source_of c.args.files.now in
    rest_end (λ ms. asked_names_of (global_of c.args.of) files c.args.file (list_view method_view ms)) refl _ (map asked_of c.loop-method.asked.items)
    c.args.methods.now c.loop-method.method-index c.loop-method-test.false c.loop-method.invariant
