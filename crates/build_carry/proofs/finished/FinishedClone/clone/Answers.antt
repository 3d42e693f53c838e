-- The copy shares the units of the table.
use Rattle.std.proofs.Common.{sym, subst}
use Rattle.std.specs.Prelude.{◌↔◌, IsTrue}
use Rattle.build_carry.specs.Finished.{Table, AreFinishedBelow, HasNoUnit}
use Rattle.build_carry.proofs.finished.FinishedClone.clone.Goals as goal

pub invariant_of-result : goal.invariant_of-result
invariant_of-result c =
    let h = c.in_ok-units.ensures in (
      subst (λ (t : Table). AreFinishedBelow t c.self.inside.front) (sym h) c.self.invariant.0,
      subst (λ (t : Table). IsTrue c.self.inside.is_empty ↔ HasNoUnit t) (sym h) c.self.invariant.1,
    )
