-- The answers to the goals of `swap::Swap::types`.
use Rattle.std.proofs.Common.{arith}
use Rattle.types_expr.specs.View.{type_of}
use Rattle.law_changed_types.specs.Moved.{moved_type}
use Rattle.refactor_known.specs.Swaps.{map_of}
use Rattle.refactor_known.proofs.Lists.{all_moved}
use Rattle.refactor_known.proofs.swap.Swap.types.Goals as goal

pub returns : goal.returns
returns c = all_moved type_of (moved_type (map_of c.args.self.now)) c.args.types.now c.loop-own.moved.items c.loop-own.own-index (omega arith)
    c.loop-own.invariant
