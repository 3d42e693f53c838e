-- By the lemma of that name.
use Rattle.history_records.proofs.RecordLaws.{records_are_found}
use Rattle.history_records.proofs.laws.records_are_found.Goals as goal

pub returns : goal.returns
returns c = records_are_found
