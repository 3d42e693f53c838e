-- The answers to the goals of `ranges::bindings_are_ranges`.
use Rattle.law_blocks.proofs.RangedBindings.{bindings_are}
use Rattle.law_blocks.proofs.ranges.bindings_are_ranges.Goals as goal

pub returns : goal.returns
returns c = bindings_are
