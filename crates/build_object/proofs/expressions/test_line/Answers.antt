-- The answers to the goals of `expressions::test_line`.
use Rattle.std.proofs.Common.{◌∷◌, [], ap, sym, ◌∙◌}
use Rattle.build_object.specs.Lines.{Duplicate, Pop, JumpUnless}
use Rattle.build_object.specs.LineView.{line_of}
use Rattle.build_object.proofs.Links.{test_default}
use Rattle.build_object.proofs.expressions.test_line.Goals as goal

pub returns-in_default : goal.returns-in_default
unfolding line_of
returns-in_default c = λ n e. test_default c.args.op n c.in_default.not-Or ∙ ap (λ k. Duplicate ∷ JumpUnless k ∷ Pop ∷ []) (sym e)
