-- The answers to the goals of `coupling::Reached::reach`.
use Rattle.std.proofs.Common.{refl}
use Rattle.refactor_coupled.proofs.Marking.{reached_one}
use Rattle.refactor_coupled.proofs.coupling.Reached.reach.Goals as goal

pub returns : goal.returns
returns c = reached_one c.args.self.now _ c.args.index refl c.in_ok-push.ensures.items refl c.requires
