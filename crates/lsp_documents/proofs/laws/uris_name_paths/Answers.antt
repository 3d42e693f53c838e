-- The answers to the goals of `laws::uris_name_paths`.
use Rattle.lsp_documents.proofs.Naming.{uris_named}
use Rattle.lsp_documents.proofs.laws.uris_name_paths.Goals as goal

pub returns : goal.returns
returns c = uris_named
