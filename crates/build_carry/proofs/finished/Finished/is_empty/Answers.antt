-- It is what was found of the units.
use Rattle.std.proofs.Common.{subst}
use Rattle.std.specs.Prelude.{◌↔◌, IsTrue}
use Rattle.build_carry.specs.Finished.{Table, HasNoUnit}
use Rattle.build_carry.proofs.finished.Finished.is_empty.Goals as goal

pub returns : goal.returns
returns c = subst (λ (t : Table). IsTrue c.self.inside.is_empty ↔ HasNoUnit t) c.self.view_is c.self.invariant.1
