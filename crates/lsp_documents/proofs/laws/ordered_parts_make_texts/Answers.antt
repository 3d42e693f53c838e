-- The answers to the goals of `laws::ordered_parts_make_texts`.
use Rattle.lsp_documents.proofs.Following.{ordered_made}
use Rattle.lsp_documents.proofs.laws.ordered_parts_make_texts.Goals as goal

pub returns : goal.returns
returns c = ordered_made
