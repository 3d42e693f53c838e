-- The answers to the goals of `documents::Documents::open`.
use Rattle.std.proofs.Common.{Some, ◌∙◌, ap, refl, w64}
use Rattle.std.proofs.lemmas.Int.{to_z-of_z}
use Rattle.lsp_documents.proofs.Putting.{on_ok, opened}
use Rattle.lsp_documents.proofs.documents.Documents.open.Goals as goal

pub returns-clause-opened : goal.returns-clause-opened
returns-clause-opened c =
    on_ok c.put.result
    (opened c.args.name.now c.args.uri.now c.args.version c.args.text.now c.args.self.now c.put.new.self
    (record { uri = c.in_ok-uri.uri; version = c.args.version; text = Some c.in_ok-from_slice.field-0 })
    (record {
      uri_is = c.in_ok-uri.ensures.ok;
      version_is = refl;
      text_is = ap Some (c.in_ok-from_slice.ensures.items ∙ c.as_bytes.ensures.value);
    }))
    (rw (to_z-of_z w64 c.args.version c.ranges.version) at c.put.ensures.put)
