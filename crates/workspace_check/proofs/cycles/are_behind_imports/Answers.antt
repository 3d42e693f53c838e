-- The answers to the goals of `cycles::are_behind_imports`.
use Rattle.std.proofs.Common.{◌≡◌, ◌<◌, inl, inr, length, sym, subst, arith}
use Rattle.std.specs.Prelude.{Some, slice_get}
use Rattle.std.proofs.lemmas.Bool.{cases_lt}
use Rattle.std.proofs.lemmas.Option.{slice_get_within}
use Rattle.base_files.specs.Packages.{package_paths}
use Rattle.workspace_check.specs.Cycles.{ComesAfterImports}
use Rattle.workspace_check.proofs.cycles.are_behind_imports.Goals as goal

pub loop-number-init : goal.loop-number-init
loop-number-init c = λ i p lt at. absurd (omega (arith, lt))

pub loop-number-preserved : goal.loop-number-preserved
loop-number-preserved c = λ i p lt at.
    let w = c.args.graph.now in
    let n = c.loop-number.number in
    elim (cases_lt i n) [
      | inl before ↦ c.loop-number.invariant i p before at
      | inr after ↦ (
          let is : n ≡ i = omega (arith, lt, after) in
          subst (ComesAfterImports w c.args.places.now c.args.numbers.now p) is
          (c.is_behind_imports.ensures c.if-not-is_behind_imports.false p (subst (λ k. slice_get (package_paths w) k ≡ Some p) (sym is) at)))
    ]

pub returns : goal.returns
returns c = λ t i p at.
    let within : i < length (package_paths c.args.graph.now) = slice_get_within (package_paths c.args.graph.now) i p at in
    c.loop-number.invariant i p (omega (arith, within, c.loop-number-test.false, c.len-number-end.ensures)) at
