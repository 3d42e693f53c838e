-- The paths of the packages that were passed are legible.
use Rattle.std.proofs.Common.{◌≡◌, inl, inr, refl, sym, subst, ◌∙◌, arith}
use Rattle.std.proofs.lemmas.Bool.{cases_lt, false≢true}
use Rattle.std.proofs.lemmas.Option.{slice_get_within}
use Rattle.base_files.specs.Packages.{package_paths}
use Rattle.refs_binding.proofs.MemberPlaces.{rank_of}
use Rattle.workspace_graph.proofs.SetFiles.{there}
use Rattle.refactor_units.specs.LevelNames.{HasLegiblePath}
use Rattle.refactor_units.proofs.level.have_legible_paths.Goals as goal

pub loop-number-preserved : goal.loop-number-preserved
loop-number-preserved c = λ i lt.
    let k = c.loop-number.number in
    elim (cases_lt i k) [
      | inl before ↦ c.loop-number.invariant i before
      | inr past ↦ (
          let e : k ≡ i = omega arith in subst (HasLegiblePath c.args.files.now) e (c.has_legible_path.ensures.0 c.if-not-has_legible_path.false))
    ]

pub returns-then-not-has_legible_path : goal.returns-then-not-has_legible_path
returns-then-not-has_legible_path c = (
  (λ t. absurd (false≢true t)),
  (λ legible.
      let has = c.has_legible_path.ensures.1 (λ p at. legible p (there (package_paths c.args.files.now) c.loop-number.number p at)) in
      absurd (false≢true (sym c.if-not-has_legible_path.true ∙ has))),
)

pub returns : goal.returns
returns c = (
  (λ t p has.
      let paths = package_paths c.args.files.now in
      let at = rank_of paths p has in
      let within = slice_get_within paths at.0 p at.1 in
      c.loop-number.invariant at.0 (omega (arith, within, c.loop-number-test.false, c.len-number-end.ensures, c.loop-number.auto.number-end)) p at.1),
  (λ legible. refl),
)
