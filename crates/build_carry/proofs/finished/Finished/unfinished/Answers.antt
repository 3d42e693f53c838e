-- The table is shared, or it is one of that many.
use Rattle.std.proofs.Common.{◌≡◌, length, sym, ap, subst, refl, ◌∙◌}
use Rattle.std.proofs.lemmas.Result.{IfOk-weaker}
use Rattle.build_carry.specs.Finished.{Table, HasNoUnit}
use Rattle.build_carry.proofs.finished.Finished.unfinished.Goals as goal

pub returns-then-len-count-clause-size : goal.returns-then-len-count-clause-size
returns-then-len-count-clause-size c =
    ap (λ (t : Table). length t) (c.in_ok-shared.ensures.cases ∙ sym c.self.view_is ∙ sym c.deref.ensures) ∙ sym c.len.ensures ∙ c.if-len-count.true

pub returns-then-len-count-clause-none : goal.returns-then-len-count-clause-none
returns-then-len-count-clause-none c = subst HasNoUnit (sym c.in_ok-shared.ensures.cases) c.requires

pub unfinished_units-requires : goal.unfinished_units-requires
unfinished_units-requires c = subst HasNoUnit (sym c.self.view_is ∙ sym c.deref-2.ensures) c.requires

pub shared-requires-clause-empty : goal.shared-requires-clause-empty
shared-requires-clause-empty c = (λ _. c.in_ok-units.ensures.none, λ _. refl)

pub returns-clause-size : goal.returns-clause-size
returns-clause-size c =
    IfOk-weaker c.shared.result (λ table. table ≡ c.in_ok-units.units) (λ table. length table ≡ c.args.count)
    (λ table is. ap (λ (t : Table). length t) is ∙ c.in_ok-units.ensures.size) c.shared.ensures

pub returns-clause-none : goal.returns-clause-none
returns-clause-none c =
    IfOk-weaker c.shared.result (λ table. table ≡ c.in_ok-units.units) HasNoUnit (λ table is. subst HasNoUnit (sym is) c.in_ok-units.ensures.none)
    c.shared.ensures
