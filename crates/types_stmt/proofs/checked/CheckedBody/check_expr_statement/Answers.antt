-- The answers to the goals of `checked::CheckedBody::check_expr_statement`.
use Rattle.std.proofs.Common.{ap, ◌∙◌}
use Rattle.std.proofs.lemmas.Result.{on_ok_weaker}
use Rattle.go_ast.specs.View.{expr_view}
use Rattle.types_expr.specs.Places.{place_of}
use Rattle.types_expr.specs.WorldView.{world_of}
use Rattle.types_expr.specs.Found.{locals_of, meaning_of}
use Rattle.types_stmt.specs.Simple.{check_expr_statement, is_statement, statement_faults}
use Rattle.types_stmt.proofs.CheckedSums.{found_then, notes_as}
use Rattle.types_stmt.proofs.checked.CheckedBody.check_expr_statement.Goals as goal

pub returns : goal.returns
unfolding check_expr_statement
returns c =
    on_ok_weaker c.require_statement.result (λ n. found_then (locals_of c.args.self.now.locals) c.in_ok-alone.ensures.found
    (notes_as n (ap (λ p. statement_faults p c.in_ok-alone.alone.stands (meaning_of c.in_ok-alone.alone.meaning)) c.place_of-place.ensures
    ∙ (ap (λ b. statement_faults (place_of (expr_view c.args.expr.now)) b (meaning_of c.in_ok-alone.alone.meaning)) c.in_ok-alone.ensures.stands
    ∙ ap (λ m. statement_faults (place_of (expr_view c.args.expr.now))
    (is_statement (world_of c.args.world.now) (locals_of c.args.self.now.locals) (expr_view c.args.expr.now)) m) c.in_ok-alone.ensures.found.meaning))))
    c.require_statement.ensures
