-- The answers to the goals of `simple::locals`.
use Rattle.std.proofs.Common.{ap, sym, ◌∙◌}
use Rattle.std.specs.List.{flat_map}
use Rattle.std.proofs.lemmas.Result.{on_ok_weaker}
use Rattle.go_ast.specs.View.{list_view, group_view}
use Rattle.go_ast.specs.FileView.{local_view}
use Rattle.types_declared.specs.Files.{group_items}
use Rattle.build_object.specs.SourceView.{source_of}
use Rattle.build_object.specs.Statements.{local_lines}
use Rattle.build_object.proofs.Putting.{puts_as}
use Rattle.build_object.proofs.Parts.{several_lines}
use Rattle.build_object.proofs.simple.locals.Goals as goal

pub returns-in-Several : goal.returns-in-Several
unfolding group_view
returns-in-Several c = on_ok_weaker c.each_local.result
    (λ q. puts_as (ap (λ g. flat_map (local_lines (source_of c.args.scope.source.now) c.args.scope.slots.now.places.items)
    (group_items (group_view local_view g))) c.in-Several.is
    ∙ (sym (several_lines (source_of c.args.scope.source.now) c.args.scope.slots.now.places.items c.in-Several.items.items) ∙
    ap (λ xs. flat_map (λ i. local_lines (source_of c.args.scope.source.now) c.args.scope.slots.now.places.items i.value) (list_view local_view xs))
    (sym c.deref.ensures.value))) q) c.each_local.ensures
