-- The answers to the goals of `swap::Swap::enterings`.
use Rattle.std.proofs.Common.{arith, map}
use Rattle.types_info.specs.MemberUses.{enterings_in}
use Rattle.law_changed_types.specs.Moved.{moved_entering}
use Rattle.refactor_known.specs.Swaps.{map_of}
use Rattle.refactor_known.proofs.Lists.{all_moved}
use Rattle.refactor_known.proofs.swap.Swap.enterings.Goals as goal

pub returns : goal.returns
returns c = all_moved enterings_in (map (moved_entering (map_of c.args.self.now))) c.args.lists.now c.loop-list.moved.items c.loop-list.list-index (omega arith)
    c.loop-list.invariant
