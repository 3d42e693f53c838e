-- The answers to the goals of `concerned::concerns_at`.
use Rattle.std.proofs.Common.{◌≡◌, ap, map, sym, subst, ◌∙◌}
use Rattle.std.specs.Prelude.{Option, Some, option_map, slice_get}
use Rattle.std.proofs.lemmas.Option.{slice_get-get_or, slice_get-map}
use Rattle.go_ast.specs.SourceFile.{SourceFile, source_of}
use Rattle.refactor_members.specs.Judging.{IsUncalled}
use Rattle.refactor_members.proofs.concerned.concerns_at.Goals as goal

pub returns-in-Some : goal.returns-in-Some
returns-in-Some c = λ none k x has.
    let files = c.args.files.now in
    let file = c.args.file in
    let tree = c.in-Some.tree.now in
    let at : slice_get files file ≡ Some tree = slice_get-get_or files file tree c.in-Some.ensures.lookup.3.0 ∙ ap Some (sym c.in-Some.ensures.lookup.1) in
    let here : slice_get (map source_of files) file ≡ Some (source_of tree) = slice_get-map source_of files file ∙ ap (option_map source_of) at in
    subst (λ (o : Option SourceFile). IsUncalled c.args.m.now o x.place) (sym here) (c.concerns_file.ensures none k x has)
