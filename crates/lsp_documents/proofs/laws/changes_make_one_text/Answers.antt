-- The answers to the goals of `laws::changes_make_one_text`.
use Rattle.lsp_documents.proofs.Following.{one_text}
use Rattle.lsp_documents.proofs.laws.changes_make_one_text.Goals as goal

pub returns : goal.returns
returns c = one_text
