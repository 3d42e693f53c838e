-- The table is that of the units.
use Rattle.std.proofs.Common.{sym, subst}
use Rattle.std.specs.Prelude.{◌↔◌, IsTrue}
use Rattle.build_carry.specs.Finished.{Table, AreFinishedBelow, HasNoUnit}
use Rattle.build_carry.proofs.finished.Finished.shared.Goals as goal

pub invariant_of-result : goal.invariant_of-result
invariant_of-result c = (
  subst (λ (t : Table). AreFinishedBelow t c.args.front) (sym c.in_ok-units.ensures.ok) c.requires.front,
  subst (λ (t : Table). IsTrue c.args.is_empty ↔ HasNoUnit t) (sym c.in_ok-units.ensures.ok) c.requires.empty,
)
