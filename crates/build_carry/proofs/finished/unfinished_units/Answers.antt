-- One place more.
use Rattle.std.proofs.Common.{[], ◌∷◌, length, length-append, None, sym, ap, subst, arith}
use Rattle.build_carry.specs.Finished.{Table, HasNoUnit}
use Rattle.build_carry.proofs.FinishedUnits.{none_more}
use Rattle.build_carry.proofs.finished.unfinished_units.Goals as goal

pub loop-number-init : goal.loop-number-init
loop-number-init c = record {
  size = sym c.len-number.ensures;
  least = omega (arith, c.in_ok-all.ensures.size, c.len-number.ensures);
  none = c.in_ok-all.ensures.none;
}

pub loop-number-preserved : goal.loop-number-preserved
loop-number-preserved c =
    let old = c.loop-number.invariant in
    let nothing : Table = None ∷ [] in
    record {
      size = omega (arith, ap (λ (t : Table). length t) c.in_ok-push.ensures.ok, length-append c.loop-number.all nothing, old.size);
      least = omega (arith, c.loop-number-test.true);
      none = subst HasNoUnit (sym c.in_ok-push.ensures.ok) (none_more c.loop-number.all old.none);
    }

pub returns-clause-size : goal.returns-clause-size
returns-clause-size c = omega (arith, c.loop-number.invariant.size, c.loop-number.invariant.least, c.loop-number-test.false)

pub returns-clause-none : goal.returns-clause-none
returns-clause-none c = c.loop-number.invariant.none
