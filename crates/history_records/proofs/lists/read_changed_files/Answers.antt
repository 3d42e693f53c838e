-- The files that are added are missing.
use Rattle.base_edits.specs.EditSet.{FileChanges}
use Rattle.history_records.specs.Encoded.{AreChangedFiles, AreCounted, FailsToDecode, IsAddedFile}
use Rattle.history_records.specs.Encoded.{IsFileChange, added_bytes, edit_set_bytes, file_change_bytes, list_bytes}
use Rattle.history_records.proofs.Coded.{fails_by_second}
use Rattle.history_records.proofs.Parts.{told_on, changed_once}
use Rattle.history_records.proofs.lists.read_changed_files.Goals as goal

pub returns-in_err-added-clause-err : goal.returns-in_err-added-clause-err
returns-in_err-added-clause-err c = told_on (FailsToDecode edit_set_bytes AreChangedFiles c.args.bytes.now) c.in_err-added.field-0.0
    c.from_residual-in_err-added.result
    c.from_residual-in_err-added.ensures.1
    (fails_by_second (list_bytes file_change_bytes) (AreCounted IsFileChange) (list_bytes added_bytes) (AreCounted IsAddedFile)
    (λ (s : FileChanges). s.changed) (λ (s : FileChanges). s.added) changed_once c.args.bytes.now
    c.in_ok-changed.changed.items c.in_ok-changed.behind.now c.in_err-added.field-0.0 c.in_ok-changed.ensures.ok c.in_err-added.ensures.err)
