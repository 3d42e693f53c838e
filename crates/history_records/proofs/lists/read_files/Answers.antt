-- One value further, or one is missing.
use Rattle.std.proofs.Common.{arith}
use Rattle.history_records.specs.Encoded.{AreCounted, FailsToDecode, IsAddedFile, added_bytes, list_bytes}
use Rattle.history_records.proofs.Coded.{list_fails}
use Rattle.history_records.proofs.Parts.{told_on, added_once}
use Rattle.history_records.proofs.lists.read_files.Goals as goal

pub returns-in_err-file-clause-err : goal.returns-in_err-file-clause-err
returns-in_err-file-clause-err c = told_on (FailsToDecode (list_bytes added_bytes) (AreCounted IsAddedFile) c.args.bytes.now) c.in_err-file.field-0.0
    c.from_residual-in_err-file.result
    c.from_residual-in_err-file.ensures.1
    (list_fails added_bytes IsAddedFile added_once c.args.bytes.now c.in_ok-count.count c.in_ok-count.behind.now c.loop-number.added.items
    c.loop-number.left.now c.in_err-file.field-0.0
    c.in_ok-count.ensures.ok c.loop-number.invariant.many (omega (arith, c.loop-number.invariant.long)) c.in_err-file.ensures.err)
