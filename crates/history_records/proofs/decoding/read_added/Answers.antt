-- The text is missing.
use Rattle.std.proofs.Common.{List, ℕ}
use Rattle.history_records.specs.Encoded.{FailsToDecode, IsAddedFile, IsPathText, IsText, added_bytes, text_bytes}
use Rattle.history_records.proofs.Coded.{fails_by_second}
use Rattle.history_records.proofs.Parts.{told_on, path_once}
use Rattle.history_records.proofs.decoding.read_added.Goals as goal

pub returns-in_err-text-clause-err : goal.returns-in_err-text-clause-err
returns-in_err-text-clause-err c = told_on (FailsToDecode added_bytes IsAddedFile c.args.bytes.now) c.in_err-text.field-0.0 c.from_residual-in_err-text.result
    c.from_residual-in_err-text.ensures.1
    (fails_by_second text_bytes IsPathText text_bytes IsText (λ (f : List ℕ × List ℕ). f.0) (λ (f : List ℕ × List ℕ). f.1) path_once c.args.bytes.now
    c.in_ok-path.path c.in_ok-path.behind.now c.in_err-text.field-0.0 c.in_ok-path.ensures.ok c.in_err-text.ensures.err)
