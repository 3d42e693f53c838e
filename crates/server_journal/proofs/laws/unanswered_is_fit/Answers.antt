-- By the lemma of that name.
use Rattle.server_journal.proofs.Lossless.{unanswered_is_fit}
use Rattle.server_journal.proofs.laws.unanswered_is_fit.Goals as goal

pub returns : goal.returns
returns c = unanswered_is_fit
