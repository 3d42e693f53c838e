-- The answer to the goal of `two_revisions::second_revisions_preserve`.
use Rattle.law_renumbered.proofs.InTurn.{second_revisions_preserve}
use Rattle.law_renumbered.proofs.two_revisions.second_revisions_preserve.Goals as goal

pub returns : goal.returns
returns c = second_revisions_preserve
