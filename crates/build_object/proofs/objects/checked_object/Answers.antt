-- The answers to the goals of `objects::checked_object`.
use Rattle.std.proofs.Common.{ap, ◌∙◌, map}
use Rattle.go_ast.specs.SourceFile.{source_of}
use Rattle.types_declared.specs.DeclaredView.{function_of as placed}
use Rattle.build_object.specs.LineView.{function_of}
use Rattle.build_object.specs.Names.{functions_behind}
use Rattle.build_object.proofs.objects.checked_object.Goals as goal

pub meant_text-requires-clause-names : goal.meant_text-requires-clause-names
meant_text-requires-clause-names c =
    let files = map source_of c.args.unit.files.now in
    ap (map function_of) c.as_slice.ensures.value ∙ (c.in_ok-names.ensures
    ∙ (ap (λ q. functions_behind q files 0 (map placed c.deref.result.now)) c.path.ensures
    ∙ ap (functions_behind c.args.unit.path.now files 0) (ap (map placed) c.deref.ensures.value ∙ c.requires.index.functions)))
