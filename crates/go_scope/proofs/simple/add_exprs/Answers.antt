-- The answers to the goals of `simple::add_exprs`.
use Rattle.std.proofs.Common.{arith}
use Rattle.go_scope.specs.IdentifierViews.{as_source}
use Rattle.go_scope.specs.ExpressionSites.{expr_sites}
use Rattle.go_scope.proofs.Adding.{adds_as, each_step, each_all}
use Rattle.go_scope.proofs.StatementParts.{expr_part, flat_map-map}
use Rattle.go_ast.specs.View.{expr_item_view}
use Rattle.go_scope.proofs.simple.add_exprs.Goals as goal

pub returns : goal.returns
returns c =
    adds_as (each_all (expr_part (as_source c.args.source.now)) c.args.exprs.now c.loop-item.item-index (omega arith) c.loop-item.invariant)
    (flat_map-map (λ x. expr_sites (as_source c.args.source.now) x.value) expr_item_view c.args.exprs.now)

pub loop-item-preserved : goal.loop-item-preserved
loop-item-preserved c =
    each_step (expr_part (as_source c.args.source.now)) c.args.exprs.now c.loop-item.item-index c.item-item.result (omega arith) c.item-item.is
    c.loop-item.invariant c.in_ok-add_expr.ensures
