-- The parts of the bytes are those of a record, or no record has these parts.
use Rattle.std.proofs.Common.{sym, ◌∙◌}
use Rattle.std.proofs.lemmas.Bool.{false≢true}
use Rattle.history_records.proofs.Heads.{is_record, no_body, no_check, no_count_no_record, no_match}
use Rattle.history_records.proofs.reading.first_record.Goals as goal

pub returns-in_default : goal.returns-in_default
returns-in_default c = no_count_no_record c.args.bytes.now c.in_default.ensures

pub returns-in_default-split_first_chunk : goal.returns-in_default-split_first_chunk
returns-in_default-split_first_chunk c =
    no_check c.args.bytes.now c.in-Some.behind.now c.in-Some.count c.in-Some.ensures c.in_default-split_first_chunk.ensures.cases

pub returns-in_default-split_at_checked : goal.returns-in_default-split_at_checked
returns-in_default-split_at_checked c =
    no_body c.args.bytes.now c.in-Some.behind.now c.in-Some-split_first_chunk.found.now c.in-Some-split_first_chunk.body.now c.in-Some.count (record {
      count = c.in-Some.ensures;
      found_is = c.in-Some-split_first_chunk.ensures.cases.0;
      body_is = c.in-Some-split_first_chunk.ensures.cases.1;
    }) c.in_default-split_at_checked.ensures.cases

pub returns-then-is_check : goal.returns-then-is_check
returns-then-is_check c =
    let split = c.in-Some-split_at_checked.ensures.cases in
    is_record c.args.bytes.now c.in-Some.behind.now c.in-Some-split_first_chunk.found.now c.in-Some-split_first_chunk.body.now
    c.in-Some-split_at_checked.held.now c.in-Some-split_at_checked.rest.now c.in-Some.count (record {
      count = c.in-Some.ensures;
      found_is = c.in-Some-split_first_chunk.ensures.cases.0;
      body_is = c.in-Some-split_first_chunk.ensures.cases.1;
    }) split.1 split.2 split.3 (c.is_check.ensures.0 c.if-is_check.true)

pub returns-else-is_check : goal.returns-else-is_check
returns-else-is_check c =
    let split = c.in-Some-split_at_checked.ensures.cases in
    no_match c.args.bytes.now c.in-Some.behind.now c.in-Some-split_first_chunk.found.now c.in-Some-split_first_chunk.body.now
    c.in-Some-split_at_checked.held.now c.in-Some.count (record {
      count = c.in-Some.ensures;
      found_is = c.in-Some-split_first_chunk.ensures.cases.0;
      body_is = c.in-Some-split_first_chunk.ensures.cases.1;
    }) split.1 (λ e. false≢true (sym c.if-is_check.false ∙ c.is_check.ensures.1 e))
