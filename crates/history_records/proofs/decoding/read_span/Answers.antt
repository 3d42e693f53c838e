-- The second number is missing.
use Rattle.base_files.specs.declared.place.Span.{Span}
use Rattle.history_records.specs.Encoded.{FailsToDecode, IsNumber, IsSpan, number_bytes, span_bytes}
use Rattle.history_records.proofs.Parts.{told_on}
use Rattle.history_records.proofs.Coded.{fails_by_second, number_once}
use Rattle.history_records.proofs.decoding.read_span.Goals as goal

pub returns-in_err-end-clause-err : goal.returns-in_err-end-clause-err
returns-in_err-end-clause-err c = told_on (FailsToDecode span_bytes IsSpan c.args.bytes.now) c.in_err-end.field-0.0 c.from_residual-in_err-end.result
    c.from_residual-in_err-end.ensures.1
    (fails_by_second number_bytes IsNumber number_bytes IsNumber (λ (s : Span). s.start) (λ (s : Span). s.end) number_once c.args.bytes.now
    c.in_ok-start.start c.in_ok-start.behind.now c.in_err-end.field-0.0 c.in_ok-start.ensures.ok c.in_err-end.ensures.err)
