-- The answers to the goals of `checked::CheckedBody::check_for_header`.
use Rattle.std.proofs.Common.{ap, sym, ◌∙◌}
use Rattle.std.proofs.lemmas.Result.{on_ok_weaker}
use Rattle.go_ast.specs.View.{option_view, expr_view}
use Rattle.go_ast.specs.FileView.{for_view, simple_view}
use Rattle.types_expr.specs.WorldView.{world_of}
use Rattle.types_stmt.specs.Simple.{check_optional_simple, check_optional_condition}
use Rattle.types_stmt.specs.Statements.{check_for_header}
use Rattle.types_stmt.specs.View.{checked_of}
use Rattle.types_stmt.proofs.checked.CheckedBody.check_for_header.Goals as goal

pub returns-in-Forever : goal.returns-in-Forever
unfolding check_for_header for_view
returns-in-Forever c = ap (λ v. check_for_header (world_of c.args.world.now) (checked_of c.args.self.now) (for_view v)) (sym c.in-Forever.is)

pub returns-in-While : goal.returns-in-While
unfolding check_for_header for_view
returns-in-While c = on_ok_weaker c.check_condition.result
    (λ q. q ∙ ap (λ v. check_for_header (world_of c.args.world.now) (checked_of c.args.self.now) (for_view v)) (sym c.in-While.is)) c.check_condition.ensures

pub returns-in_ok-check_optional_condition-in-Clauses : goal.returns-in_ok-check_optional_condition-in-Clauses
unfolding check_for_header for_view
returns-in_ok-check_optional_condition-in-Clauses c =
    on_ok_weaker c.check_optional_simple-in-Clauses.result (λ q. q ∙
    (ap (λ s. check_optional_simple (world_of c.args.world.now) s (option_view simple_view c.in-Clauses.post))
    (c.in_ok-check_optional_condition-in-Clauses.ensures ∙
    ap (λ s. check_optional_condition (world_of c.args.world.now) s (option_view expr_view c.in-Clauses.condition))
    c.in_ok-check_optional_simple-in-Clauses.ensures) ∙
    ap (λ v. check_for_header (world_of c.args.world.now) (checked_of c.args.self.now) (for_view v)) (sym c.in-Clauses.is)))
    c.check_optional_simple-in-Clauses.ensures
