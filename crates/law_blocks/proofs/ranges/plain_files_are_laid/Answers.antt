-- The answers to the goals of `ranges::plain_files_are_laid`.
use Rattle.law_blocks.proofs.Examples.{plain_files}
use Rattle.law_blocks.proofs.ranges.plain_files_are_laid.Goals as goal

pub returns : goal.returns
returns c = plain_files
