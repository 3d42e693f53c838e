-- The answers to the goals of `parse::has_no_space`.
use Rattle.server_read.proofs.Words.{no_space_by}
use Rattle.server_read.proofs.parse.has_no_space.Goals as goal

pub returns : goal.returns
returns c = no_space_by c.args.text.now c.split_word.result c.is_none.result c.is_none.ensures c.split_word.ensures
