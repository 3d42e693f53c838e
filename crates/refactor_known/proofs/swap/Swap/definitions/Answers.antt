-- The answers to the goals of `swap::Swap::definitions`.
use Rattle.std.proofs.Common.{arith}
use Rattle.types_expr.specs.WorldView.{definition_of}
use Rattle.law_changed_types.specs.MovedPackage.{moved_definition}
use Rattle.refactor_known.specs.Swaps.{map_of}
use Rattle.refactor_known.proofs.Lists.{all_moved}
use Rattle.refactor_known.proofs.swap.Swap.definitions.Goals as goal

pub returns : goal.returns
returns c = all_moved definition_of (moved_definition (map_of c.args.self.now)) c.args.definitions.now c.loop-definition.moved.items
    c.loop-definition.definition-index (omega arith) c.loop-definition.invariant
