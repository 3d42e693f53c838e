-- The answers to the goals of `declarations::add_globals`.
use Rattle.std.proofs.Common.{arith}
use Rattle.go_scope.specs.IdentifierViews.{as_source}
use Rattle.go_scope.proofs.Adding.{adds_as, each_next, each_all}
use Rattle.go_scope.proofs.StatementParts.{flat_map-map}
use Rattle.go_scope.proofs.FileParts.{global_part}
use Rattle.go_ast.specs.View.{item_view}
use Rattle.go_ast.specs.FileView.{same_index}
use Rattle.go_scope.specs.FileSites.{global_name}
use Rattle.go_scope.proofs.declarations.add_globals.Goals as goal

pub returns : goal.returns
returns c =
    adds_as (each_all (global_part (as_source c.args.source.now)) c.args.names.now c.loop-item.item-index (omega arith) c.loop-item.invariant)
    (flat_map-map (λ x. global_name (as_source c.args.source.now) x.value) (item_view same_index) c.args.names.now)

pub loop-item-preserved : goal.loop-item-preserved
loop-item-preserved c =
    each_next (global_part (as_source c.args.source.now)) c.args.names.now c.loop-item.item-index _ (omega arith) c.loop-item.invariant
    c.in_ok-add.ensures
