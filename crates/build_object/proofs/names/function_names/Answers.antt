-- The answers to the goals of `names::function_names`.
use Rattle.std.proofs.Common.{◌∷◌, ◌++◌, [], ◌∙◌, ap, arith, map, refl}
use Rattle.std.proofs.lemmas.List.{map-append}
use Rattle.go_ast.specs.SourceFile.{source_of}
use Rattle.types_declared.specs.DeclaredView.{function_of as placed_function}
use Rattle.build_object.specs.LineView.{function_of}
use Rattle.build_object.specs.Names.{functions_behind}
use Rattle.build_object.proofs.Loops.{rest_end}
use Rattle.build_object.proofs.NameParts.{names_step}
use Rattle.build_object.proofs.names.function_names.Goals as goal

pub loop-i-preserved : goal.loop-i-preserved
loop-i-preserved c = record {
  named = names_step c.args.path.now (map source_of c.args.files.now) c.loop-i.initializers c.initializers_with-initializers.result c.args.functions.now
      c.loop-i.i c.index-functions-i.result
      (map function_of c.loop-i.names.items) (map function_of c.push.new.self.items) _ (omega arith) c.index-functions-i.is c.loop-i.invariant.named
      (ap (map function_of) c.in_ok-push.ensures.items ∙ (map-append function_of c.loop-i.names.items (c.function_behind.result ∷ [])
      ∙ ap (λ n. map function_of c.loop-i.names.items ++ (n ∷ [])) c.function_behind.ensures)) c.initializers_with-initializers.ensures.counted;
  bounded = omega (arith, c.initializers_with-initializers.ensures.bounded);
}

pub returns : goal.returns
returns c =
    rest_end (λ fs. functions_behind c.args.path.now (map source_of c.args.files.now) c.loop-i.initializers (map placed_function fs)) refl _
    (map function_of c.loop-i.names.items) c.args.functions.now c.loop-i.i
    (omega arith) c.loop-i.invariant.named
