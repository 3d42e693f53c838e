-- The answers to the goals of `ranges::blocks_are_ranges`.
use Rattle.law_blocks.proofs.RangedPackages.{blocks_are}
use Rattle.law_blocks.proofs.ranges.blocks_are_ranges.Goals as goal

pub returns : goal.returns
returns c = blocks_are
