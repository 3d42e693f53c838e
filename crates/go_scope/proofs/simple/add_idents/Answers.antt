-- The answers to the goals of `simple::add_idents`.
use Rattle.std.proofs.Common.{arith}
use Rattle.go_scope.specs.IdentifierViews.{as_source}
use Rattle.go_scope.specs.StatementSites.{ident_sites}
use Rattle.go_scope.proofs.Adding.{adds_as, each_next, each_all}
use Rattle.go_scope.proofs.StatementParts.{ident_part, flat_map-map}
use Rattle.go_ast.specs.View.{item_view, ident_view}
use Rattle.go_scope.proofs.simple.add_idents.Goals as goal

pub returns : goal.returns
returns c =
    adds_as (each_all (ident_part (as_source c.args.source.now) c.args.role) c.args.idents.now c.loop-item.item-index (omega arith) c.loop-item.invariant)
    (flat_map-map (λ x. ident_sites (as_source c.args.source.now) c.args.role x.value) (item_view ident_view) c.args.idents.now)

pub loop-item-preserved : goal.loop-item-preserved
loop-item-preserved c =
    each_next (ident_part (as_source c.args.source.now) c.args.role) c.args.idents.now c.loop-item.item-index _ (omega arith) c.loop-item.invariant
    c.in_ok-add_ident.ensures
