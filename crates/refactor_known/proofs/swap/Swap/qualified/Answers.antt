-- The answers to the goals of `swap::Swap::qualified`.
use Rattle.std.proofs.Common.{arith}
use Rattle.refactor_known.specs.MovedKnown.{listed}
use Rattle.refactor_known.specs.MovedKnown.{moved_listed}
use Rattle.refactor_known.specs.Swaps.{map_of}
use Rattle.refactor_known.proofs.Lists.{all_moved}
use Rattle.refactor_known.proofs.swap.Swap.qualified.Goals as goal

pub returns : goal.returns
returns c = all_moved listed (moved_listed (map_of c.args.self.now)) c.args.lists.now c.loop-list.moved.items c.loop-list.list-index (omega arith)
    c.loop-list.invariant
