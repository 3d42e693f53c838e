-- The answers to the goals of `objects::push_judged`.
use Rattle.std.proofs.Common.{◌++◌, ap, ◌∙◌, map, drop}
use Rattle.std.specs.Prelude.{slice_get}
use Rattle.std.specs.List.{flat_map}
use Rattle.go_ast.specs.FileView.{decl_view, file_view}
use Rattle.go_ast.specs.SourceFile.{source_of as plain_file}
use Rattle.types_declared.proofs.PathParts.{source_at}
use Rattle.types_declared.specs.PackageView.{package_of}
use Rattle.build_object.specs.LineView.{function_of}
use Rattle.build_object.specs.Objects.{declared_in, names_behind_all}
use Rattle.build_object.specs.ObjectSteps.{list_of_file}
use Rattle.build_object.specs.ObjectText.{declaration_text}
use Rattle.build_object.specs.PackagesView.{type_in}
use Rattle.build_object.specs.SourceView.{source_of}
use Rattle.build_object.proofs.Sourced.{is_source}
use Rattle.build_object.proofs.Whole.{ok_with}
use Rattle.build_object.proofs.objects.push_judged.Goals as goal

pub returns : goal.returns
unfolding file_view
returns c =
    let p = package_of c.args.origin.unit in
    let x = c.index-files-turn.result in
    let s = c.in_ok-made_of.made_of in
    let at = source_at c.args.origin.unit.files.now c.args.turn.file x c.requires.in_range c.index-files-turn.is in
    let decls = ap (map decl_view) (c.deref.ensures.value ∙ ap (λ f. f.decls.items) c.file-tree.ensures.tree) in
    ok_with c.push_decls.result (λ others text rest within. record {
      file_at = plain_file x;
      in_file = at;
      source = source_of s;
      made_of = is_source p c.args.turn.file (plain_file x) c.own_world-judged_by.result (list_of_file (slice_get c.args.origin.members.now c.args.turn.file))
          (list_of_file (slice_get c.args.origin.enterings.now c.args.turn.file))
          c.args.origin.packages.now s c.requires.one at c.in_ok-made_of.ensures (c.own_world-judged_by.ensures.world (plain_file x) at)
          c.own_world-judged_by.ensures.spelling;
      text = text ∙ (ap (λ ps. c.args.text.now.items ++ flat_map (declaration_text (type_in ps))
          (declared_in (source_of s) (map function_of (drop c.args.turn.number c.args.origin.names.now)) (map decl_view c.deref.result.now)))
          c.in_ok-made_of.ensures.packages
          ∙ ap (λ ds. c.args.text.now.items ++ flat_map (declaration_text (type_in c.args.origin.packages.now))
          (declared_in (source_of s) (map function_of (drop c.args.turn.number c.args.origin.names.now)) ds)) decls);
      others_are = rest ∙ ap (names_behind_all (map function_of (drop c.args.turn.number c.args.origin.names.now))) decls;
      within = within;
    }) c.push_decls.ensures.text c.push_decls.ensures.others c.push_decls.ensures.within
