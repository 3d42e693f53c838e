-- One definition, or those in parentheses.
use Rattle.std.proofs.Common.{List, sym, subst, append-nil, map}
use Rattle.std.specs.List.{flat_map}
use Rattle.std.specs.Prelude.{Option, option_map}
use Rattle.go_ast.specs.View.{group_view}
use Rattle.go_ast.specs.FileView.{type_spec_view}
use Rattle.go_ast.specs.SourceFile.{source_of}
use Rattle.go_ast.specs.Tree.{TypeSpecTree}
use Rattle.types_declared.specs.Files.{group_items}
use Rattle.types_declared.specs.Package.{placed_type}
use Rattle.types_declared.proofs.DeclaredParts.{several_from}
use Rattle.build_object.specs.Lines.{FunctionName}
use Rattle.build_object.specs.LineView.{function_of}
use Rattle.build_object.specs.Names.{asked_names_in}
use Rattle.build_object.specs.RankLookup.{FindsRank}
use Rattle.build_object.proofs.walks.asked_in_group.Goals as goal

pub returns-in-Single : goal.returns-in-Single
unfolding group_view
returns-in-Single c =
    let names : TypeSpecTree → List (Option FunctionName) = λ s. asked_names_in c.args.place.path.now (map source_of c.args.place.files.now) (placed_type
    c.args.place.file s) in
    subst (λ g. FindsRank (option_map function_of) (flat_map names (group_items (group_view type_spec_view g))) c.args.rank c.asked_in_spec.result)
    (sym c.in-Single.is)
    (subst (λ l. FindsRank (option_map function_of) l c.args.rank c.asked_in_spec.result) (sym (append-nil _)) c.asked_in_spec.ensures)

pub returns-in-Several : goal.returns-in-Several
returns-in-Several c =
    subst (λ l. FindsRank (option_map function_of) l c.args.rank c.asked_in_items.result)
    (several_from (λ s. asked_names_in c.args.place.path.now (map source_of c.args.place.files.now) (placed_type c.args.place.file s)) type_spec_view
    c.args.group.now c.in-Several.«open» c.in-Several.items c.in-Several.close _ c.in-Several.is c.deref.ensures.value) c.asked_in_items.ensures
