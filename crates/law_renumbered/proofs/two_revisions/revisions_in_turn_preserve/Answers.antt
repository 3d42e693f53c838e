-- The answer to the goal of `two_revisions::revisions_in_turn_preserve`.
use Rattle.law_renumbered.proofs.InTurn.{revisions_in_turn_preserve}
use Rattle.law_renumbered.proofs.two_revisions.revisions_in_turn_preserve.Goals as goal

pub returns : goal.returns
returns c = revisions_in_turn_preserve
