-- The answers to the goals of `simple::add_lefts`.
use Rattle.std.proofs.Common.{arith}
use Rattle.go_scope.specs.IdentifierViews.{as_source}
use Rattle.go_scope.specs.StatementSites.{left_sites}
use Rattle.go_scope.proofs.Adding.{adds_as, each_step, each_all}
use Rattle.go_scope.proofs.StatementParts.{left_part, flat_map-map}
use Rattle.go_ast.specs.View.{expr_item_view}
use Rattle.go_scope.proofs.simple.add_lefts.Goals as goal

pub returns : goal.returns
returns c =
    adds_as (each_all (left_part (as_source c.args.source.now) c.args.block c.args.following) c.args.lefts.now c.loop-item.item-index (omega arith)
    c.loop-item.invariant)
    (flat_map-map (λ x. left_sites (as_source c.args.source.now) c.args.block c.args.following x.value) expr_item_view c.args.lefts.now)

pub loop-item-preserved : goal.loop-item-preserved
loop-item-preserved c =
    each_step (left_part (as_source c.args.source.now) c.args.block c.args.following) c.args.lefts.now c.loop-item.item-index c.item-item.result
    (omega arith) c.item-item.is c.loop-item.invariant c.in_ok-add_left.ensures
