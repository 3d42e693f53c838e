-- The answers to the goals of `laws::lines_are_read`.
use Rattle.tool_text.proofs.Journals.{lines_read}
use Rattle.tool_text.proofs.laws.lines_are_read.Goals as goal

pub returns : goal.returns
returns c = lines_read
