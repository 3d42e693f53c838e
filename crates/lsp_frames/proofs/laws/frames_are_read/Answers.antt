-- The answers to the goals of `laws::frames_are_read`.
use Rattle.lsp_message.proofs.Heading.{frames_headed}
use Rattle.lsp_frames.proofs.Unique.{read_back}
use Rattle.lsp_frames.proofs.laws.frames_are_read.Goals as goal

pub returns : goal.returns
returns c = read_back frames_headed
