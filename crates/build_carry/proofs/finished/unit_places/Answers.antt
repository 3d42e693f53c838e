-- None of the places, or all of them.
use Rattle.std.proofs.Common.{◌≡◌, ◌≤◌, length, sym, ap, subst, arith}
use Rattle.std.proofs.lemmas.Result.{IfOk-weaker}
use Rattle.build_carry.specs.Finished.{Table, HasNoUnit}
use Rattle.build_carry.proofs.FinishedUnits.{none_empty}
use Rattle.build_carry.proofs.finished.unit_places.Goals as goal

pub returns-then-len-count-clause-size : goal.returns-then-len-count-clause-size
returns-then-len-count-clause-size c = omega (arith, ap (λ (t : Table). length t) c.new.ensures)

pub returns-then-len-count-clause-none : goal.returns-then-len-count-clause-none
returns-then-len-count-clause-none c = subst HasNoUnit (sym c.new.ensures) none_empty

pub returns-clause-size : goal.returns-clause-size
returns-clause-size c =
    IfOk-weaker c.copy.result (λ copy. copy ≡ c.args.units.now) (λ first. length first ≤ c.args.count)
    (λ first is. omega (arith, ap (λ (t : Table). length t) is, c.if-len-count.false, c.len.ensures)) c.copy.ensures

pub returns-clause-none : goal.returns-clause-none
returns-clause-none c =
    IfOk-weaker c.copy.result (λ copy. copy ≡ c.args.units.now) HasNoUnit (λ first is. subst HasNoUnit (sym is) c.requires) c.copy.ensures
