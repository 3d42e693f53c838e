-- The answers to the goals of `sides::single_values`.
use Rattle.std.proofs.Common.{ap, sym, ◌∙◌, map}
use Rattle.go_ast.specs.View.{expr_view}
use Rattle.types_expr.specs.Places.{place_of}
use Rattle.types_expr.specs.Judge.{as_value}
use Rattle.types_expr.specs.View.{type_of}
use Rattle.types_expr.specs.Found.{meaning_of}
use Rattle.types_stmt.specs.Sides.{values_of, one_value}
use Rattle.types_stmt.proofs.Cases.{values_default}
use Rattle.types_expr.proofs.Equations.{ok_map}
use Rattle.types_stmt.proofs.LoopProgress.{adds_followed, adds_results, list_as}
use Rattle.types_stmt.proofs.sides.single_values.Goals as goal

pub returns-in-Results : goal.returns-in-Results
unfolding meaning_of
returns-in-Results c =
    ok_map c.results_at.result (λ vs e. adds_followed (values_of (place_of (expr_view c.args.expr.now))) c.in_ok-meaning.ensures
    (list_as (adds_results c.place_of-place.result (map type_of c.in-Results.types.now) _ e)
    (ap (λ x. values_of c.place_of-place.result (meaning_of x)) (sym c.in-Results.is) ∙
    ap (λ p. values_of p (meaning_of c.in_ok-meaning.meaning)) c.place_of-place.ensures))) c.results_at.ensures

pub returns-in_default : goal.returns-in_default
returns-in_default c =
    ok_map c.one_value.result (λ vs e. adds_followed (values_of (place_of (expr_view c.args.expr.now))) c.in_ok-meaning.ensures
    (list_as e (ap (λ p. one_value p (as_value p (meaning_of c.in_ok-meaning.meaning))) c.place_of-place.ensures ∙
    values_default (place_of (expr_view c.args.expr.now)) c.in_ok-meaning.meaning c.in_default.not-Results))) c.one_value.ensures
