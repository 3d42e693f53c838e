-- The answers to the goals of `swap::Swap::members`.
use Rattle.std.proofs.Common.{arith, map}
use Rattle.types_info.specs.MemberUses.{uses_in}
use Rattle.law_changed_types.specs.Moved.{moved_use}
use Rattle.refactor_known.specs.Swaps.{map_of}
use Rattle.refactor_known.proofs.Lists.{all_moved}
use Rattle.refactor_known.proofs.swap.Swap.members.Goals as goal

pub returns : goal.returns
returns c = all_moved uses_in (map (moved_use (map_of c.args.self.now))) c.args.members.now c.loop-uses.moved.items c.loop-uses.uses-index (omega arith)
    c.loop-uses.invariant
