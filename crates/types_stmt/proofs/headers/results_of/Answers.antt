-- The answers to the goals of `headers::results_of`.
use Rattle.std.proofs.Common.{[], ◌∷◌, ◌++◌, ap, sym, ◌∙◌, map}
use Rattle.go_ast.specs.View.{list_view, type_view}
use Rattle.go_ast.specs.FileView.{results_view}
use Rattle.types_expr.specs.WorldView.{world_of}
use Rattle.types_stmt.specs.declared.sides.Target.TheVariants as target
use Rattle.types_stmt.specs.Headers.{judge_types, judge_results}
use Rattle.types_stmt.specs.View.{target_of}
use Rattle.types_expr.proofs.Equations.{ok_map}
use Rattle.types_stmt.proofs.LoopProgress.{adds_no_results, adds_one_result, results_as}
use Rattle.types_stmt.proofs.headers.results_of.Goals as goal

pub returns-in-None : goal.returns-in-None
unfolding judge_results results_view
returns-in-None c = results_as (adds_no_results c.args.found.now (ap (map target_of) c.new.ensures.items))
    (ap (λ v. judge_results (world_of c.args.world.now) (results_view v)) (sym c.in-None.is))

pub returns-in_ok-push-in-Single : goal.returns-in_ok-push-in-Single
unfolding judge_results results_view target_of
returns-in_ok-push-in-Single c =
    results_as (adds_one_result c.in_ok-own-in-Single.ensures
    (ap (map target_of) (c.in_ok-push-in-Single.ensures.items ∙
    ap (λ x. x ++ (target.Wants c.in_ok-own-in-Single.own ∷ [])) c.new-targets.ensures.items)))
    (ap (λ v. judge_results (world_of c.args.world.now) (results_view v)) (sym c.in-Single.is))

pub returns-in-Several : goal.returns-in-Several
unfolding judge_results results_view
returns-in-Several c =
    ok_map c.result_types.result (λ ts a. results_as a
    (ap (λ xs. judge_types (world_of c.args.world.now) (list_view type_view xs)) c.deref.ensures.value ∙
    ap (λ v. judge_results (world_of c.args.world.now) (results_view v)) (sym c.in-Several.is))) c.result_types.ensures
