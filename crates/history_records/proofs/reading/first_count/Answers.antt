-- The parts of the bytes are those of a count with its check, or no count has these parts.
use Rattle.std.proofs.Common.{sym, rules, arith, length, ap, ◌∙◌}
use Rattle.std.proofs.lemmas.Bool.{false≢true}
use Rattle.std.proofs.lemmas.List.{length-take-le}
use Rattle.history_records.proofs.Heads.{is_count, no_confirmed, no_count, small_front}
use Rattle.history_records.proofs.reading.first_count.Goals as goal

pub returns-in_default-split_first_chunk : goal.returns-in_default-split_first_chunk
returns-in_default-split_first_chunk c =
    no_count c.args.bytes.now (omega (arith, c.in-Some.ensures.cases.2, c.in_default-split_first_chunk.ensures.cases))

pub returns-then-is_count_check : goal.returns-then-is_count_check
returns-then-is_count_check c =
    is_count c.args.bytes.now c.in-Some.count.now c.in-Some.checked.now c.in-Some-split_first_chunk.found.now c.in-Some-split_first_chunk.behind.now
    c.from_le_bytes.result (record {
      head_is = c.in-Some.ensures.cases.0;
      checked_is = c.in-Some.ensures.cases.1;
      found_is = c.in-Some-split_first_chunk.ensures.cases.0;
      behind_is = c.in-Some-split_first_chunk.ensures.cases.1;
    }) c.from_le_bytes.ensures (search rules)
    (ap length c.in-Some.ensures.cases.0 ∙ length-take-le 4 c.args.bytes.now (omega (arith, c.in-Some.ensures.cases.2)))
    (small_front 4 c.args.bytes.now c.in-Some.count.now c.type_inv.bytes c.in-Some.ensures.cases.0) (c.is_count_check.ensures.0 c.if-is_count_check.true)

pub returns-else-is_count_check : goal.returns-else-is_count_check
returns-else-is_count_check c =
    no_confirmed c.args.bytes.now c.in-Some.count.now c.in-Some.checked.now c.in-Some-split_first_chunk.found.now c.in-Some-split_first_chunk.behind.now
    (record {
      head_is = c.in-Some.ensures.cases.0;
      checked_is = c.in-Some.ensures.cases.1;
      found_is = c.in-Some-split_first_chunk.ensures.cases.0;
      behind_is = c.in-Some-split_first_chunk.ensures.cases.1;
    }) (λ e. false≢true (sym c.if-is_count_check.false ∙ c.is_count_check.ensures.1 e))
