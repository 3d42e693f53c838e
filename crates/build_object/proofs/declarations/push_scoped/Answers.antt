-- The answers to the goals of `declarations::push_scoped`.
use Rattle.std.proofs.Common.{◌∙◌, map}
use Rattle.std.proofs.lemmas.Result.{on_ok_weaker}
use Rattle.go_ast.specs.FileView.{func_view}
use Rattle.types_expr.specs.View.{type_of}
use Rattle.build_object.specs.LineView.{function_of, lines_in}
use Rattle.build_object.proofs.TextParts.{function_put}
use Rattle.build_object.proofs.declarations.push_scoped.Goals as goal

pub returns : goal.returns
returns c =
    let s = c.in_ok-signature.signature in
    let h = c.in_ok-signature.ensures in
    on_ok_weaker c.push_function.result
    (λ q. function_put c.args.scope.source.now (func_view c.args.func.now) (function_of c.args.name) (function_of s.name) c.args.text.now.items
    c.push_function.new.text.items c.args.scope.slots.now.places.items (lines_in c.in_ok-code.code)
    (map type_of s.parameters.items) (map type_of s.results.items) s.slots c.requires c.in_ok-code.ensures h.named h.parameters h.results
    (h.slot_count ∙ (c.len.ensures ∙ c.args.scope.slots.now.places.ok.0)) q)
    c.push_function.ensures
