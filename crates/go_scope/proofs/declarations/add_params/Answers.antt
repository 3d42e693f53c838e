-- The answers to the goals of `declarations::add_params`.
use Rattle.std.proofs.Common.{arith}
use Rattle.go_scope.specs.IdentifierViews.{as_source}
use Rattle.go_scope.proofs.Adding.{adds_as, each_step, each_all}
use Rattle.go_scope.proofs.StatementParts.{flat_map-map}
use Rattle.go_scope.proofs.FileParts.{param_part}
use Rattle.go_ast.specs.View.{item_view}
use Rattle.go_ast.specs.FileView.{param_view}
use Rattle.go_scope.specs.FileSites.{param_sites}
use Rattle.go_scope.proofs.declarations.add_params.Goals as goal

pub returns : goal.returns
returns c =
    adds_as (each_all (param_part (as_source c.args.source.now) c.args.block c.args.start) c.args.params.now c.loop-item.item-index (omega arith)
    c.loop-item.invariant)
    (flat_map-map (λ x. param_sites (as_source c.args.source.now) c.args.block c.args.start x.value) (item_view param_view) c.args.params.now)

pub loop-item-preserved : goal.loop-item-preserved
loop-item-preserved c =
    each_step (param_part (as_source c.args.source.now) c.args.block c.args.start) c.args.params.now c.loop-item.item-index c.item-item.result
    (omega arith) c.item-item.is c.loop-item.invariant c.in_ok-add_param.ensures
