-- By the lemma of that name.
use Rattle.history_records.proofs.RecordLaws.{damage_is_not_cut}
use Rattle.history_records.proofs.laws.damage_is_not_cut.Goals as goal

pub returns : goal.returns
returns c = damage_is_not_cut
