-- The text is no path.
use Rattle.history_records.specs.Encoded.{FailsToDecode, IsPathText, text_bytes}
use Rattle.history_records.proofs.Parts.{told_on, not_path}
use Rattle.history_records.proofs.decoding.read_path.Goals as goal

pub returns-in_err-as_path-clause-err : goal.returns-in_err-as_path-clause-err
returns-in_err-as_path-clause-err c = told_on (FailsToDecode text_bytes IsPathText c.args.bytes.now) c.in_err-as_path.field-0.0
    c.from_residual-in_err-as_path.result
    c.from_residual-in_err-as_path.ensures.1
    (not_path c.args.bytes.now c.in_ok-text.text.now c.in_ok-text.rest.now c.in_err-as_path.field-0.0 c.in_ok-text.ensures.ok c.in_err-as_path.ensures.err)
