-- The answers to the goals of `sides::results_at`.
use Rattle.std.proofs.Common.{ap, sym, ◌∙◌, arith}
use Rattle.types_expr.specs.View.{type_of, kind_of}
use Rattle.types_expr.specs.Found.{list_value}
use Rattle.types_stmt.specs.Sides.{result_at}
use Rattle.types_stmt.proofs.Lists.{map_map, push_mapped, all_mapped}
use Rattle.types_stmt.proofs.sides.results_at.Goals as goal

pub loop-result_type-preserved : goal.loop-result_type-preserved
unfolding kind_of
loop-result_type-preserved c =
    push_mapped list_value (λ t. result_at c.args.place (type_of t)) c.loop-result_type.values.items _ _ c.args.types.now
    c.loop-result_type.result_type-index c.result_type-item.result
    c.in_ok-push.ensures.items c.loop-result_type-test.true c.result_type-item.is (ap (λ t. result_at c.args.place t) c.in_ok-copy.ensures)
    c.loop-result_type.invariant

pub returns : goal.returns
returns c =
    all_mapped list_value (λ t. result_at c.args.place (type_of t)) c.loop-result_type.values.items c.args.types.now c.loop-result_type.result_type-index
    (omega arith) c.loop-result_type.invariant
    ∙ sym (map_map (result_at c.args.place) type_of c.args.types.now)
