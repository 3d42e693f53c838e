-- The answers to the goals of `swap::Swap::uses`.
use Rattle.std.proofs.Common.{arith}
use Rattle.types_expr.specs.Found.{use_of}
use Rattle.law_changed_types.specs.Moved.{moved_use}
use Rattle.refactor_known.specs.Swaps.{map_of}
use Rattle.refactor_known.proofs.Lists.{all_moved}
use Rattle.refactor_known.proofs.swap.Swap.uses.Goals as goal

pub returns : goal.returns
returns c = all_moved use_of (moved_use (map_of c.args.self.now)) c.args.uses.now c.loop-one.moved.items c.loop-one.one-index (omega arith) c.loop-one.invariant
