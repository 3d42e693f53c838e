-- The answers to the goals of `documents::Documents::close`.
use Rattle.std.proofs.Common.{None}
use Rattle.lsp_documents.proofs.Putting.{only_change}
use Rattle.lsp_documents.proofs.documents.Documents.close.Goals as goal

pub returns : goal.returns
returns c = only_change c.args.name.now c.args.self.now (record { entries = c.remove-closed.new.self }) None c.remove-closed.ensures.updates
