-- The answers to the goals of `parse::split_word`.
use Rattle.server_read.proofs.Words.{SplitsWord-from_split}
use Rattle.server_read.proofs.parse.split_word.Goals as goal

pub returns : goal.returns
returns c = SplitsWord-from_split c.args.text.now c.split_once.result c.split_once.ensures.cases
