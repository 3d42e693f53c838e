-- The answers to the goals of `ranges::blocks_nest_or_are_apart`.
use Rattle.law_blocks.proofs.Blocks.{blocks_nest}
use Rattle.law_blocks.proofs.ranges.blocks_nest_or_are_apart.Goals as goal

pub returns : goal.returns
returns c = blocks_nest
