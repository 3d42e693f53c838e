-- One value further, or one is missing.
use Rattle.std.proofs.Common.{arith}
use Rattle.history_records.specs.Encoded.{AreCounted, FailsToDecode, IsEdit, edit_bytes, list_bytes}
use Rattle.history_records.proofs.Coded.{list_fails}
use Rattle.history_records.proofs.Parts.{told_on, edit_once}
use Rattle.history_records.proofs.lists.read_edits.Goals as goal

pub returns-in_err-edit-clause-err : goal.returns-in_err-edit-clause-err
returns-in_err-edit-clause-err c = told_on (FailsToDecode (list_bytes edit_bytes) (AreCounted IsEdit) c.args.bytes.now) c.in_err-edit.field-0.0
    c.from_residual-in_err-edit.result
    c.from_residual-in_err-edit.ensures.1
    (list_fails edit_bytes IsEdit edit_once c.args.bytes.now c.in_ok-count.count c.in_ok-count.behind.now c.loop-number.edits.items c.loop-number.left.now
    c.in_err-edit.field-0.0
    c.in_ok-count.ensures.ok c.loop-number.invariant.many (omega (arith, c.loop-number.invariant.long)) c.in_err-edit.ensures.err)
