-- The answers to the goals of `bytes::is_same_block`.
use Rattle.base_files.proofs.Blocks.{mask_of_blocks}
use Rattle.base_files.proofs.bytes.is_same_block.Goals as goal

pub returns : goal.returns
returns c = mask_of_blocks c.args.at c.args.one.now c.args.other.now c.requires.one c.requires.other
