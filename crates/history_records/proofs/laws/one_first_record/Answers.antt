-- By the lemma of that name.
use Rattle.history_records.proofs.RecordLaws.{one_first_record}
use Rattle.history_records.proofs.laws.one_first_record.Goals as goal

pub returns : goal.returns
returns c = one_first_record
