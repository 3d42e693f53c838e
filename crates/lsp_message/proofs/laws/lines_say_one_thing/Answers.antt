-- The answers to the goals of `laws::lines_say_one_thing`.
use Rattle.lsp_message.proofs.Heading.{one_thing}
use Rattle.lsp_message.proofs.laws.lines_say_one_thing.Goals as goal

pub returns : goal.returns
returns c = one_thing
