-- Nothing is known of any package, in whatever workspace.
use Rattle.workspace_check.proofs.Telling.{known_still}
use Rattle.build_carry.proofs.carried_known.no_verdicts.Goals as goal

pub returns : goal.returns
returns c = λ w. known_still w c.new-nothing.result c.share_earlier.new.self c.share_earlier.ensures (c.new-nothing.ensures.right w)
