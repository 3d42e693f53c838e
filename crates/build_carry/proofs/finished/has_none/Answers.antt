-- No package that was passed is finished.
use Rattle.std.proofs.Common.{◌≡◌, Some, inl, inr, refl, sym, subst, ◌∙◌, arith}
use Rattle.std.specs.Prelude.{slice_get}
use Rattle.std.proofs.lemmas.Bool.{cases_lt, false≢true}
use Rattle.std.proofs.lemmas.Option.{slice_get_within}
use Rattle.build_carry.proofs.finished.has_none.Goals as goal

pub loop-number-preserved : goal.loop-number-preserved
loop-number-preserved c = λ i lt unit is.
    let k = c.loop-number.number in
    elim (cases_lt i k) [
      | inl before ↦ c.loop-number.invariant i before unit is
      | inr past ↦ (
          let e : i ≡ k = omega arith in
          false≢true (sym c.if-has_unit.false ∙ c.has_unit.ensures.1 (unit, subst (λ j. slice_get c.args.units.now j ≡ Some (Some unit)) e is)))
    ]

pub returns-then-has_unit : goal.returns-then-has_unit
returns-then-has_unit c = (
  λ t. absurd (false≢true t),
  λ none. (let has = c.has_unit.ensures.0 c.if-has_unit.true in absurd (none c.loop-number.number has.0 has.1)),
)

pub returns : goal.returns
returns c = (
  λ _ i unit is.
      let within = slice_get_within c.args.units.now i (Some unit) is in
      c.loop-number.invariant i (omega (arith, within, c.loop-number-test.false, c.len-number-end.ensures, c.loop-number.auto.number-end)) unit is,
  λ _. refl,
)
