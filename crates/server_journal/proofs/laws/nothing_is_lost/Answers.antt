-- By the lemma of that name.
use Rattle.server_journal.proofs.Lossless.{nothing_is_lost}
use Rattle.server_journal.proofs.laws.nothing_is_lost.Goals as goal

pub returns : goal.returns
returns c = nothing_is_lost
