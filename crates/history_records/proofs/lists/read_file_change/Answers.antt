-- What becomes of the path is missing, or the edits are.
use Rattle.base_edits.specs.declared.change.FileChange.{FileChange}
use Rattle.history_records.specs.Encoded.{AreCounted, FailsToDecode, IsEdit, IsFate, IsFileChange}
use Rattle.history_records.specs.Encoded.{IsPathText, edit_bytes, fate_bytes, file_change_bytes, list_bytes, text_bytes}
use Rattle.history_records.proofs.Coded.{fails_by_first, fails_by_second}
use Rattle.history_records.proofs.Parts.{told_on, FatedEdits, IsFated, fate_once, fated_bytes, fated_of, path_once}
use Rattle.history_records.proofs.lists.read_file_change.Goals as goal

pub returns-in_err-fate-clause-err : goal.returns-in_err-fate-clause-err
returns-in_err-fate-clause-err c = told_on (FailsToDecode file_change_bytes IsFileChange c.args.bytes.now) c.in_err-fate.field-0.0
    c.from_residual-in_err-fate.result
    c.from_residual-in_err-fate.ensures.1
    (fails_by_second text_bytes IsPathText fated_bytes IsFated (λ (f : FileChange). f.path) fated_of path_once c.args.bytes.now
    c.in_ok-path.path c.in_ok-path.behind.now c.in_err-fate.field-0.0 c.in_ok-path.ensures.ok
    (fails_by_first fate_bytes IsFate (list_bytes edit_bytes) (AreCounted IsEdit) (λ (f : FatedEdits). f.0) (λ (f : FatedEdits). f.1)
    c.in_ok-path.behind.now c.in_err-fate.field-0.0
    c.in_err-fate.ensures.err))

pub returns-in_err-edits-clause-err : goal.returns-in_err-edits-clause-err
returns-in_err-edits-clause-err c = told_on (FailsToDecode file_change_bytes IsFileChange c.args.bytes.now) c.in_err-edits.field-0.0
    c.from_residual-in_err-edits.result
    c.from_residual-in_err-edits.ensures.1
    (fails_by_second text_bytes IsPathText fated_bytes IsFated (λ (f : FileChange). f.path) fated_of path_once c.args.bytes.now
    c.in_ok-path.path c.in_ok-path.behind.now c.in_err-edits.field-0.0 c.in_ok-path.ensures.ok
    (fails_by_second fate_bytes IsFate (list_bytes edit_bytes) (AreCounted IsEdit) (λ (f : FatedEdits). f.0) (λ (f : FatedEdits). f.1) fate_once
    c.in_ok-path.behind.now c.in_ok-fate.fate c.in_ok-fate.after.now c.in_err-edits.field-0.0 c.in_ok-fate.ensures.ok c.in_err-edits.ensures.err))
