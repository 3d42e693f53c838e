-- The answers to the goals of `declarations::add_methods`.
use Rattle.std.proofs.Common.{arith}
use Rattle.go_scope.specs.IdentifierViews.{as_source}
use Rattle.go_scope.proofs.Adding.{adds_as, each_step, each_all}
use Rattle.go_scope.proofs.StatementParts.{flat_map-map}
use Rattle.go_scope.proofs.FileParts.{method_part}
use Rattle.go_ast.specs.View.{item_view}
use Rattle.go_ast.specs.FileView.{method_view}
use Rattle.go_scope.specs.FileSites.{method_sites}
use Rattle.go_scope.proofs.declarations.add_methods.Goals as goal

pub returns : goal.returns
returns c =
    adds_as (each_all (method_part (as_source c.args.source.now)) c.args.methods.now c.loop-item.item-index (omega arith)
    c.loop-item.invariant)
    (flat_map-map (λ x. method_sites (as_source c.args.source.now) x.value) (item_view method_view) c.args.methods.now)

pub loop-item-preserved : goal.loop-item-preserved
loop-item-preserved c =
    each_step (method_part (as_source c.args.source.now)) c.args.methods.now c.loop-item.item-index c.item-item.result
    (omega arith) c.item-item.is c.loop-item.invariant c.in_ok-add_method.ensures
