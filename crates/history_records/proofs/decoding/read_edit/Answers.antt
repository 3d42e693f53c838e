-- The text is missing.
use Rattle.base_edits.specs.declared.edit.Edit.{Edit}
use Rattle.history_records.specs.Encoded.{FailsToDecode, IsEdit, IsSpan, IsText, edit_bytes, span_bytes, text_bytes}
use Rattle.history_records.proofs.Coded.{fails_by_second}
use Rattle.history_records.proofs.Parts.{told_on, span_once}
use Rattle.history_records.proofs.decoding.read_edit.Goals as goal

pub returns-in_err-text-clause-err : goal.returns-in_err-text-clause-err
returns-in_err-text-clause-err c = told_on (FailsToDecode edit_bytes IsEdit c.args.bytes.now) c.in_err-text.field-0.0 c.from_residual-in_err-text.result
    c.from_residual-in_err-text.ensures.1
    (fails_by_second span_bytes IsSpan text_bytes IsText (λ (e : Edit). e.span) (λ (e : Edit). e.text) span_once c.args.bytes.now
    c.in_ok-span.span c.in_ok-span.behind.now c.in_err-text.field-0.0 c.in_ok-span.ensures.ok c.in_err-text.ensures.err)
