-- The answers to the goals of `checked::CheckedBody::check_condition`.
use Rattle.std.proofs.Common.{ap, ◌∙◌, option_map}
use Rattle.std.proofs.lemmas.Result.{on_ok_weaker}
use Rattle.go_ast.specs.View.{expr_view}
use Rattle.types_expr.specs.Places.{place_of}
use Rattle.types_expr.specs.Judge.{value_kind}
use Rattle.types_expr.specs.View.{kind_of}
use Rattle.types_expr.specs.WorldView.{world_of}
use Rattle.types_expr.specs.Found.{locals_of}
use Rattle.types_stmt.specs.Simple.{condition_faults, check_condition}
use Rattle.types_stmt.proofs.CheckedSums.{found_then, notes_as}
use Rattle.types_stmt.proofs.checked.CheckedBody.check_condition.Goals as goal

pub returns : goal.returns
unfolding check_condition
returns c =
    on_ok_weaker c.require_bool.result (λ n. found_then (locals_of c.args.self.now.locals) c.in_ok-judge_value.ensures
    (notes_as n (ap (λ p. condition_faults (world_of c.args.world.now) p (option_map kind_of c.into_kind-kind.result)) c.place_of-place.ensures
    ∙ ap (λ k. condition_faults (world_of c.args.world.now) (place_of (expr_view c.args.expr.now)) k)
    (c.into_kind-kind.ensures ∙ ap value_kind c.in_ok-judge_value.ensures.meaning)))) c.require_bool.ensures
