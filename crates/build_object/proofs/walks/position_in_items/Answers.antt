-- One definition more, and all of them at the end.
use Rattle.std.proofs.Common.{arith}
use Rattle.go_ast.specs.FileView.{type_spec_view}
use Rattle.build_object.specs.RankLookup.{spec_positions}
use Rattle.build_object.proofs.Walking.{walked_next, walked_found, walked_all}
use Rattle.build_object.proofs.walks.position_in_items.Goals as goal

pub loop-item-preserved : goal.loop-item-preserved
loop-item-preserved c =
    walked_next (λ i. spec_positions (type_spec_view i.value)) c.args.items.now c.loop-item.item-index c.item-item.result c.args.rank c.loop-item.rest
    c.in-Err.left (omega arith) c.item-item.is c.loop-item.invariant c.in-Err.ensures

pub returns-in-Ok : goal.returns-in-Ok
returns-in-Ok c =
    walked_found (λ i. spec_positions (type_spec_view i.value)) c.args.items.now c.loop-item.item-index c.item-item.result c.args.rank
    c.loop-item.rest c.in-Ok.found (omega arith) c.item-item.is c.loop-item.invariant c.in-Ok.ensures

pub returns : goal.returns
returns c =
    walked_all (λ i. spec_positions (type_spec_view i.value)) c.args.items.now c.loop-item.item-index c.args.rank c.loop-item.rest (omega arith)
    c.loop-item.invariant
