-- The answers to the goals of `uniqueness::are_in_order`.
use Rattle.std.proofs.Common.{arith}
use Rattle.types_info.proofs.TreeOrder.{none_in_order, next_in_order, all_in_order}
use Rattle.types_info.proofs.uniqueness.are_in_order.Goals as goal

pub loop-rank-init : goal.loop-rank-init
loop-rank-init c = none_in_order c.args.files.now

pub loop-rank-preserved : goal.loop-rank-preserved
loop-rank-preserved c = next_in_order c.args.files.now c.loop-rank.rank c.index-files-rank.result (omega arith) c.index-files-rank.is
    c.file-tree.ensures.is_file c.loop-rank.invariant

pub returns : goal.returns
returns c = all_in_order c.args.files.now c.loop-rank.rank (omega arith) c.loop-rank.invariant
