-- The answers to the goals of `checked::CheckedBody::check_update`.
use Rattle.std.proofs.Common.{ap, ◌∙◌, option_map}
use Rattle.std.proofs.lemmas.Result.{on_ok_weaker}
use Rattle.go_ast.specs.View.{expr_view}
use Rattle.types_expr.specs.Places.{first_token}
use Rattle.types_expr.specs.Judge.{value_kind}
use Rattle.types_expr.specs.View.{kind_of}
use Rattle.types_expr.specs.WorldView.{world_of}
use Rattle.types_expr.specs.Found.{locals_of}
use Rattle.types_stmt.specs.Sides.{judge_operand}
use Rattle.types_stmt.specs.Simple.{update_faults, check_update}
use Rattle.types_stmt.proofs.CheckedSums.{updated, notes_as}
use Rattle.types_stmt.proofs.checked.CheckedBody.check_update.Goals as goal

pub returns : goal.returns
unfolding check_update
returns c =
    on_ok_weaker c.require_operation.result (λ n. updated (locals_of c.args.self.now.locals) c.in_ok-operand.ensures c.in_ok-judge_value.ensures
    (notes_as n (ap (λ p. update_faults (world_of c.args.world.now) p c.args.op (option_map kind_of c.into_kind-assigned.result)
    (option_map kind_of c.into_kind-given.result)) c.first_token-start.ensures
    ∙ (ap (λ k. update_faults (world_of c.args.world.now) (first_token (expr_view c.args.left.now)) c.args.op k
    (option_map kind_of c.into_kind-given.result)) (c.into_kind-assigned.ensures ∙ ap value_kind c.in_ok-operand.ensures.meaning)
    ∙ ap (λ k. update_faults (world_of c.args.world.now) (first_token (expr_view c.args.left.now)) c.args.op
    (value_kind (judge_operand (world_of c.args.world.now) (locals_of c.args.self.now.locals) (expr_view c.args.left.now)).meaning) k)
    (c.into_kind-given.ensures ∙ ap value_kind c.in_ok-judge_value.ensures.meaning))))) c.require_operation.ensures
