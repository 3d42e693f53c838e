-- The answers to the goals of `simple::add_simple`.
use Rattle.std.proofs.Common.{◌++◌, ap, sym, ◌∙◌}
use Rattle.go_scope.specs.ExpressionSites.{expr_sites}
use Rattle.go_scope.specs.IdentifierViews.{as_source}
use Rattle.go_scope.specs.StatementSites.{simple_sites}
use Rattle.go_scope.proofs.Adding.{call_adds, then_adds}
use Rattle.go_scope.proofs.StatementParts.{assign_from, define_from}
use Rattle.go_ast.specs.View.{expr_view}
use Rattle.go_ast.specs.FileView.{simple_view}
use Rattle.go_scope.proofs.simple.add_simple.Goals as goal

pub returns-in-Expr : goal.returns-in-Expr
unfolding simple_sites simple_view
returns-in-Expr c = call_adds _ _ c.add_expr.result c.add_expr.ensures
    (ap (λ v. simple_sites (as_source c.args.source.now) c.args.block c.args.following (simple_view v)) (sym c.in-Expr.is))

pub returns-in-Step : goal.returns-in-Step
unfolding simple_sites simple_view
returns-in-Step c = call_adds _ _ c.add_expr-in-Step.result c.add_expr-in-Step.ensures
    (ap (λ v. simple_sites (as_source c.args.source.now) c.args.block c.args.following (simple_view v)) (sym c.in-Step.is))

pub returns-in_ok-add_expr-in-Update : goal.returns-in_ok-add_expr-in-Update
unfolding simple_sites simple_view
returns-in_ok-add_expr-in-Update c = then_adds _ _ c.add_expr-in-Update-2.result c.in_ok-add_expr-in-Update.ensures c.add_expr-in-Update-2.ensures
    (ap (λ e. expr_sites (as_source c.args.source.now) (expr_view c.in-Update.left) ++ expr_sites (as_source c.args.source.now) (expr_view e))
    c.deref.ensures ∙ ap (λ v. simple_sites (as_source c.args.source.now) c.args.block c.args.following (simple_view v)) (sym c.in-Update.is))

pub returns-in_ok-add_all_assigned-in-Assign : goal.returns-in_ok-add_all_assigned-in-Assign
returns-in_ok-add_all_assigned-in-Assign c =
    then_adds _ _ c.add_exprs.result c.in_ok-add_all_assigned-in-Assign.ensures c.add_exprs.ensures
    (assign_from _ c.args.block c.args.following c.args.simple.now c.in-Assign.left c.in-Assign.right c.in-Assign.at _ _ c.in-Assign.is
    c.deref-in-Assign.ensures.value c.deref-in-Assign-2.ensures.value)

pub returns-in_ok-add_lefts-in-Define : goal.returns-in_ok-add_lefts-in-Define
returns-in_ok-add_lefts-in-Define c =
    then_adds _ _ c.add_exprs-in-Define.result c.in_ok-add_lefts-in-Define.ensures c.add_exprs-in-Define.ensures
    (define_from _ c.args.block c.args.following c.args.simple.now c.in-Define.left c.in-Define.right c.in-Define.at _ _ c.in-Define.is
    c.deref-in-Define.ensures.value c.deref-in-Define-2.ensures.value)
