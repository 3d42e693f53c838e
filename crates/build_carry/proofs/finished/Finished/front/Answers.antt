-- It is the number that is kept.
use Rattle.std.proofs.Common.{subst}
use Rattle.build_carry.specs.Finished.{Table, AreFinishedBelow}
use Rattle.build_carry.proofs.finished.Finished.front.Goals as goal

pub returns : goal.returns
returns c = subst (λ (t : Table). AreFinishedBelow t c.self.inside.front) c.self.view_is c.self.invariant.0
