-- The answers to the goals of `swap::Swap::file_enterings`.
use Rattle.std.proofs.Common.{arith}
use Rattle.types_expr.specs.Found.{plain_entering}
use Rattle.law_changed_types.specs.Moved.{moved_entering}
use Rattle.refactor_known.specs.Swaps.{map_of}
use Rattle.refactor_known.proofs.Lists.{all_moved}
use Rattle.refactor_known.proofs.swap.Swap.file_enterings.Goals as goal

pub returns : goal.returns
returns c = all_moved plain_entering (moved_entering (map_of c.args.self.now)) c.args.enterings.now c.loop-one.moved.items c.loop-one.one-index (omega arith)
    c.loop-one.invariant
