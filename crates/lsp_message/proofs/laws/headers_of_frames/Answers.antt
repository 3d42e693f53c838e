-- The answers to the goals of `laws::headers_of_frames`.
use Rattle.lsp_message.proofs.Heading.{frames_headed}
use Rattle.lsp_message.proofs.laws.headers_of_frames.Goals as goal

pub returns : goal.returns
returns c = frames_headed
