-- The answers to the goals of `headers::result_types`.
use Rattle.std.proofs.Common.{List, ap, sym, ◌∙◌, ◌+◌, drop, map, refl, subst}
use Rattle.std.proofs.Math.ListN.{drop_of_length-le}
use Rattle.std.proofs.lemmas.List.{map-append}
use Rattle.go_ast.specs.View.{list_view, type_view}
use Rattle.types_expr.specs.Judge.{judge_type}
use Rattle.types_expr.specs.WorldView.{world_of}
use Rattle.types_stmt.specs.Sides.{Target}
use Rattle.types_stmt.specs.Headers.{judge_types}
use Rattle.types_stmt.specs.View.{target_of}
use Rattle.types_stmt.proofs.LoopProgress.{GrownResults, grown_results_step, grown_results_end}
use Rattle.types_expr.proofs.Items.{next_item}
use Rattle.types_stmt.proofs.ListEquations.{judge_types_step, judge_types_end}
use Rattle.types_stmt.proofs.headers.result_types.Goals as goal

pub loop-item-preserved : goal.loop-item-preserved
unfolding target_of
loop-item-preserved c =
    subst (λ (ts : List Target). GrownResults (judge_types (world_of c.args.world.now)
    (list_view type_view (drop (c.loop-item.item-index + 1) c.args.types.now)))
    (judge_types (world_of c.args.world.now) (list_view type_view c.args.types.now)) c.args.found.now c.judge_type.new.self ts)
    (sym (ap (map target_of) c.in_ok-push.ensures.items ∙ map-append target_of c.loop-item.targets.items _))
    (grown_results_step (judge_type (world_of c.args.world.now) (type_view c.item-item.result.value)) _ c.loop-item.invariant c.in_ok-own.ensures refl
    (ap (λ xs. judge_types (world_of c.args.world.now) (list_view type_view xs)) (next_item _ _ _ c.loop-item-test.true c.item-item.is) ∙
    judge_types_step (world_of c.args.world.now) c.item-item.result _))

pub returns : goal.returns
returns c =
    grown_results_end c.loop-item.invariant (ap (λ xs. judge_types (world_of c.args.world.now) (list_view type_view xs))
    (drop_of_length-le _ c.loop-item-test.false) ∙ judge_types_end (world_of c.args.world.now))
