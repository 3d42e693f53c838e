-- The package is compared with both.
use Rattle.std.proofs.Common.{sym, ◌∙◌}
use Rattle.std.proofs.lemmas.Bool.{true≢false}
use Rattle.build_carry.proofs.same_inputs.is_package_of_both.Goals as goal

pub returns-then-not-is_same_package : goal.returns-then-not-is_same_package
returns-then-not-is_same_package c = λ p a b at there other. (
  λ t. absurd (true≢false (sym t)),
  λ both. absurd (true≢false (sym ((c.is_same_package.ensures p at a there).1 both.0) ∙ c.if-not-is_same_package.true)),
)

pub returns : goal.returns
returns c = λ p a b at there other. (
  λ t. ((c.is_same_package.ensures p at a there).0 c.if-not-is_same_package.false, (c.is_same_package-2.ensures p at b other).0 t),
  λ both. (c.is_same_package-2.ensures p at b other).1 both.1,
)
