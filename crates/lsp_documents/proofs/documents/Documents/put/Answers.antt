-- The answers to the goals of `documents::Documents::put`.
use Rattle.std.proofs.Common.{Some, subst}
use Rattle.std.specs.Prelude.{string_bytes}
use Rattle.lsp_documents.specs.Documents.{IsOnlyChange}
use Rattle.lsp_documents.proofs.Putting.{only_change}
use Rattle.lsp_documents.proofs.documents.Documents.put.Goals as goal

pub returns-in-Ok-clause-put : goal.returns-in-Ok-clause-put
returns-in-Ok-clause-put c =
    subst (λ n. IsOnlyChange n (Some c.args.document) c.args.self.now (record { entries = c.insert.new.self })) c.in_ok-key.ensures.ok
    (only_change (string_bytes c.in_ok-key.key) c.args.self.now (record { entries = c.insert.new.self }) (Some c.args.document) c.in-Ok.ensures.updates)

pub returns-clause-stays : goal.returns-clause-stays
returns-clause-stays c = c.in-Err.ensures.err
