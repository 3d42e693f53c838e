-- By the lemma of that name.
use Rattle.history_records.proofs.RecordLaws.{unconfirmed_counts_are_damage}
use Rattle.history_records.proofs.laws.unconfirmed_counts_are_damage.Goals as goal

pub returns : goal.returns
returns c = unconfirmed_counts_are_damage
