-- The answers to the goals of `checked::CheckedBody::check_simple`.
use Rattle.std.proofs.Common.{ap, sym, ◌∙◌}
use Rattle.std.proofs.lemmas.Result.{on_ok_weaker}
use Rattle.go_ast.specs.View.{expr_view, exprs_view}
use Rattle.go_ast.specs.FileView.{simple_view}
use Rattle.types_expr.specs.WorldView.{world_of}
use Rattle.types_stmt.specs.Simple.{check_update, check_assign, check_define, check_simple}
use Rattle.types_stmt.specs.View.{checked_of}
use Rattle.types_stmt.proofs.checked.CheckedBody.check_simple.Goals as goal

pub returns-in-Expr : goal.returns-in-Expr
unfolding check_simple simple_view
returns-in-Expr c = on_ok_weaker c.check_expr_statement.result
    (λ q. q ∙ ap (λ v. check_simple (world_of c.args.world.now) (checked_of c.args.self.now) (simple_view v)) (sym c.in-Expr.is)) c.check_expr_statement.ensures

pub returns-in-Step : goal.returns-in-Step
unfolding check_simple simple_view
returns-in-Step c = on_ok_weaker c.check_step.result
    (λ q. q ∙ ap (λ v. check_simple (world_of c.args.world.now) (checked_of c.args.self.now) (simple_view v)) (sym c.in-Step.is)) c.check_step.ensures

pub returns-in-Update : goal.returns-in-Update
unfolding check_simple simple_view
returns-in-Update c =
    on_ok_weaker c.check_update.result (λ q. q ∙ (ap (λ e.
    check_update (world_of c.args.world.now) (checked_of c.args.self.now) c.binary_of.result (expr_view c.in-Update.left) (expr_view e)) c.deref.ensures ∙
    (ap (λ o. check_update (world_of c.args.world.now) (checked_of c.args.self.now) o (expr_view c.in-Update.left) (expr_view c.in-Update.right.value))
    c.binary_of.ensures ∙ ap (λ v. check_simple (world_of c.args.world.now) (checked_of c.args.self.now) (simple_view v)) (sym c.in-Update.is))))
    c.check_update.ensures

pub returns-in-Assign : goal.returns-in-Assign
unfolding check_simple simple_view
returns-in-Assign c =
    on_ok_weaker c.check_assign.result (λ q. q ∙ (ap (λ xs.
    check_assign (world_of c.args.world.now) (checked_of c.args.self.now) (exprs_view xs) (exprs_view c.deref-in-Assign-2.result.now))
    c.deref-in-Assign.ensures.value
    ∙ (ap (λ ys. check_assign (world_of c.args.world.now) (checked_of c.args.self.now) (exprs_view c.in-Assign.left.items) (exprs_view ys))
    c.deref-in-Assign-2.ensures.value ∙
    ap (λ v. check_simple (world_of c.args.world.now) (checked_of c.args.self.now) (simple_view v)) (sym c.in-Assign.is)))) c.check_assign.ensures

pub returns-in-Define : goal.returns-in-Define
unfolding check_simple simple_view
returns-in-Define c =
    on_ok_weaker c.check_define.result (λ q. q ∙ (ap (λ xs.
    check_define (world_of c.args.world.now) (checked_of c.args.self.now) (exprs_view xs) (exprs_view c.deref-in-Define-2.result.now))
    c.deref-in-Define.ensures.value
    ∙ (ap (λ ys. check_define (world_of c.args.world.now) (checked_of c.args.self.now) (exprs_view c.in-Define.left.items) (exprs_view ys))
    c.deref-in-Define-2.ensures.value ∙
    ap (λ v. check_simple (world_of c.args.world.now) (checked_of c.args.self.now) (simple_view v)) (sym c.in-Define.is)))) c.check_define.ensures
