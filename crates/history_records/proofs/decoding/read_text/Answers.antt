-- The bytes are fewer than the count says.
use Rattle.history_records.proofs.Parts.{text_too_short}
use Rattle.history_records.proofs.decoding.read_text.Goals as goal

pub returns-in-None-clause-err : goal.returns-in-None-clause-err
returns-in-None-clause-err c =
    text_too_short c.args.bytes.now c.in_ok-count.count c.in_ok-count.behind.now c.in_ok-count.ensures.ok c.in-None.ensures.cases
