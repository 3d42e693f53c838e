-- By the lemma of that name.
use Rattle.history_records.proofs.RecordLaws.{changed_counts_are_damage}
use Rattle.history_records.proofs.laws.changed_counts_are_damage.Goals as goal

pub returns : goal.returns
returns c = changed_counts_are_damage
