-- The answers to the goals of `documents::Documents::change`.
use Rattle.std.proofs.Common.{w64}
use Rattle.std.proofs.lemmas.Int.{to_z-of_z}
use Rattle.lsp_documents.proofs.Putting.{changed, on_ok}
use Rattle.lsp_documents.proofs.documents.Documents.change.Goals as goal

pub returns-in_ok-after-in-Some-clause-changed : goal.returns-in_ok-after-in-Some-clause-changed
returns-in_ok-after-in-Some-clause-changed c =
    on_ok c.put.result
    (changed c.args.encoding c.args.name.now c.args.version c.args.changes.now c.args.self.now c.put.new.self c.in-Some.document.now
    c.in_ok-after-in-Some.after c.in-Some.ensures.value
    (rw (to_z-of_z w64 c.args.version c.ranges.version) at c.in_ok-after-in-Some.ensures))
    c.put.ensures.put
