-- Eight bytes are a number, and fewer are none.
use Rattle.std.proofs.Common.{rules, arith}
use Rattle.history_records.proofs.Coded.{number_read, number_short}
use Rattle.history_records.proofs.Heads.{small_front}
use Rattle.history_records.proofs.decoding.read_number.Goals as goal

pub returns-in-Some-clause-ok : goal.returns-in-Some-clause-ok
returns-in-Some-clause-ok c = (
  search rules,
  number_read c.args.bytes.now c.in-Some.number.now c.in-Some.rest.now c.from_le_bytes.result c.in-Some.ensures.cases.0 c.in-Some.ensures.cases.1
      (omega (arith, c.in-Some.ensures.cases.2)) (small_front 8 c.args.bytes.now c.in-Some.number.now c.type_inv.bytes c.in-Some.ensures.cases.0)
      c.from_le_bytes.ensures,
)

pub returns-in-None-clause-err : goal.returns-in-None-clause-err
returns-in-None-clause-err c = number_short c.args.bytes.now c.in-None.ensures.cases
