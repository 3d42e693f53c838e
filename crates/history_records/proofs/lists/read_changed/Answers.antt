-- One value further, or one is missing.
use Rattle.std.proofs.Common.{arith}
use Rattle.history_records.specs.Encoded.{AreCounted, FailsToDecode, IsFileChange, file_change_bytes, list_bytes}
use Rattle.history_records.proofs.Coded.{list_fails}
use Rattle.history_records.proofs.Parts.{told_on, file_change_once}
use Rattle.history_records.proofs.lists.read_changed.Goals as goal

pub returns-in_err-change-clause-err : goal.returns-in_err-change-clause-err
returns-in_err-change-clause-err c = told_on (FailsToDecode (list_bytes file_change_bytes) (AreCounted IsFileChange) c.args.bytes.now)
    c.in_err-change.field-0.0 c.from_residual-in_err-change.result
    c.from_residual-in_err-change.ensures.1
    (list_fails file_change_bytes IsFileChange file_change_once c.args.bytes.now c.in_ok-count.count c.in_ok-count.behind.now c.loop-number.changed.items
    c.loop-number.left.now c.in_err-change.field-0.0
    c.in_ok-count.ensures.ok c.loop-number.invariant.many (omega (arith, c.loop-number.invariant.long)) c.in_err-change.ensures.err)
