-- The answers to the goals of `functions::add_results`.
use Rattle.std.proofs.Common.{◌++◌, append-nil, ap, sym, ◌∙◌, map}
use Rattle.std.proofs.lemmas.Result.{on_ok_weaker}
use Rattle.go_ast.specs.View.{type_view}
use Rattle.go_ast.specs.FileView.{results_view}
use Rattle.types_expr.specs.View.{type_of}
use Rattle.types_expr.specs.WorldView.{world_of}
use Rattle.types_declared.specs.MeaningOf.{result_types}
use Rattle.build_object.specs.Objects.{all_written, written}
use Rattle.build_object.proofs.Headers.{several_results}
use Rattle.build_object.proofs.TypeParts.{for_results}
use Rattle.build_object.proofs.functions.add_results.Goals as goal

pub returns-in-None : goal.returns-in-None
unfolding results_view
returns-in-None c = sym (append-nil (map type_of c.args.types.now.items)) ∙
    ap (λ v. map type_of c.args.types.now.items ++ all_written (world_of c.args.world.now) (result_types (results_view v))) (sym c.in-None.is)

pub returns-in-Single : goal.returns-in-Single
unfolding results_view
returns-in-Single c = on_ok_weaker c.add_written.result
    (λ q. q ∙ (ap (λ z. map type_of c.args.types.now.items ++ z) (sym (append-nil (written (world_of c.args.world.now) (type_view c.in-Single.own))))
    ∙ ap (λ v. map type_of c.args.types.now.items ++ all_written (world_of c.args.world.now) (result_types (results_view v))) (sym c.in-Single.is)))
    c.add_written.ensures

pub returns-in-Several : goal.returns-in-Several
unfolding results_view
returns-in-Several c = on_ok_weaker c.add_items.result
    (λ q. q ∙ (ap (λ xs. map type_of c.args.types.now.items ++ for_results (world_of c.args.world.now) xs) c.deref.ensures.value
    ∙ (ap (λ z. map type_of c.args.types.now.items ++ z) (several_results (world_of c.args.world.now) c.in-Several.items.items) ∙
    ap (λ v. map type_of c.args.types.now.items ++ all_written (world_of c.args.world.now) (result_types (results_view v))) (sym c.in-Several.is))))
    c.add_items.ensures
