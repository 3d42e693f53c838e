-- The answers to the goals of `ranges::tokens_have_one_block`.
use Rattle.law_blocks.proofs.Blocks.{one_block}
use Rattle.law_blocks.proofs.ranges.tokens_have_one_block.Goals as goal

pub returns : goal.returns
returns c = one_block
