-- The answers to the goals of `edits::documents_value`.
use Rattle.std.proofs.Common.{◌≡◌, arith, map, subst}
use Rattle.std.proofs.lemmas.List.{take_all}
use Rattle.std.proofs.lemmas.Result.{IfOk-weaker}
use Rattle.serde_json.specs.View.{items_of, view}
use Rattle.lsp_answers.specs.Edits.{document_changes_value}
use Rattle.lsp_edits.specs.Edits.{AreDocumentEdits, TellsDocuments}
use Rattle.lsp_edits.proofs.Collecting.{documents_next}
use Rattle.lsp_edits.proofs.edits.documents_value.Goals as goal

pub loop-change-preserved : goal.loop-change-preserved
loop-change-preserved c =
    documents_next c.args.telling c.args.files.now c.change-item.result c.args.changes.now c.loop-change.change-index c.loop-change.documents.items
    c.push.new.self.items c.in_ok-document.document c.loop-change-test.true c.change-item.is c.in_ok-push.ensures.items c.in_ok-document.ensures
    c.loop-change.invariant

pub returns : goal.returns
returns c =
    let values = map view c.loop-change.documents.items in
    let all = subst (λ l. AreDocumentEdits c.args.telling c.args.files.now l values)
    (take_all c.loop-change.change-index c.args.changes.now (omega (arith, c.loop-change-test.false))) c.loop-change.invariant in
    IfOk-weaker c.document_changes_value.result (λ value. view value ≡ document_changes_value (items_of values))
    (λ value. TellsDocuments c.args.telling c.args.files.now c.args.changes.now (view value)) (λ value h. (values, all, h))
    c.document_changes_value.ensures
