-- The answers to the goals of `functions::result_count`.
use Rattle.std.proofs.Common.{ap, sym, ◌∙◌, length}
use Rattle.std.proofs.lemmas.List.{length-map}
use Rattle.go_ast.specs.View.{item_view, list_view, type_view}
use Rattle.go_ast.specs.FileView.{results_view}
use Rattle.types_declared.specs.MeaningOf.{result_types}
use Rattle.build_object.proofs.functions.result_count.Goals as goal

pub returns-in-Several : goal.returns-in-Several
unfolding results_view
returns-in-Several c = c.len.ensures ∙ (c.in-Several.types.ok.0
    ∙ sym (ap (λ v. length (result_types (results_view v))) c.in-Several.is ∙
    (length-map (list_view type_view c.in-Several.types.items) (λ i. i.value) ∙ length-map c.in-Several.types.items (item_view type_view))))
