-- By the lemma of that name.
use Rattle.history_records.proofs.Parts.{one_change_of_bytes}
use Rattle.history_records.proofs.laws.one_change_of_bytes.Goals as goal

pub returns : goal.returns
returns c = one_change_of_bytes
