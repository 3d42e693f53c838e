-- One package more was passed.
use Rattle.std.proofs.Common.{◌≡◌, ◌<◌, inl, inr, length, sym, subst, ap, ◌∙◌, arith}
use Rattle.std.specs.Prelude.{Contains, Some, slice_get}
use Rattle.std.proofs.lemmas.Bool.{cases_lt}
use Rattle.std.proofs.lemmas.Option.{same_Some, slice_get_within}
use Rattle.base_lemmas.proofs.Tests.{none_from_test}
use Rattle.base_files.specs.Packages.{package_paths}
use Rattle.workspace_graph.proofs.ByPath.{number}
use Rattle.workspace_parsing.proofs.parsing.share_no_package.Goals as goal

pub loop-number-init : goal.loop-number-init
loop-number-init c = λ i p lt at. absurd (omega (arith, lt))

pub loop-number-preserved : goal.loop-number-preserved
loop-number-preserved c = λ i p lt at has.
    let v = c.args.above.now in
    let w = c.args.below.now in
    let n = c.loop-number.number in
    elim (cases_lt i n) [
      | inl before ↦ c.loop-number.invariant i p before at has
      | inr after ↦ (
          let is : i ≡ n = omega (arith, lt, after) in
          let none = none_from_test c.number_of.result (sym c.if-is_some.ensures) in
          let gone : Contains (package_paths w) c.deref.result.now → ⊥ = rw none at c.number_of.ensures in
          let path : p ≡ c.package.result.now.path.items =
          same_Some p c.package.result.now.path.items (sym at ∙ ap (slice_get (package_paths v)) is ∙ c.package.ensures.path) in
          gone (subst (Contains (package_paths w)) (path ∙ sym c.deref.ensures.value) has))
    ]

pub returns : goal.returns
returns c = λ is p has below.
    let w = c.args.above.now in
    let found = number w p has in
    let within : found.0 < length (package_paths w) = slice_get_within (package_paths w) found.0 p found.1 in
    c.loop-number.invariant found.0 p (omega (arith, within, c.loop-number-test.false, c.len-number-end.ensures)) found.1 below
