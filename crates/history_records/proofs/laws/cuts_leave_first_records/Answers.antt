-- By the lemma of that name.
use Rattle.history_records.proofs.RecordLaws.{cuts_leave_first_records}
use Rattle.history_records.proofs.laws.cuts_leave_first_records.Goals as goal

pub returns : goal.returns
returns c = cuts_leave_first_records
