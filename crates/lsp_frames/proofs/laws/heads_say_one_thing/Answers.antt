-- The answers to the goals of `laws::heads_say_one_thing`.
use Rattle.lsp_message.proofs.Heading.{one_thing}
use Rattle.lsp_frames.proofs.Unique.{one_head}
use Rattle.lsp_frames.proofs.laws.heads_say_one_thing.Goals as goal

pub returns : goal.returns
returns c = one_head one_thing
