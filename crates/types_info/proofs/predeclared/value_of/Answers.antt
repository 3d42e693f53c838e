-- The answers to the goals of `predeclared::value_of`.
use Rattle.std.proofs.Common.{◌∙◌, sym}
use Rattle.std.proofs.lemmas.Bool.{false≢true}
use Rattle.types_expr.specs.WorldView.{bound_of}
use Rattle.types_info.proofs.DeclaredMeanings.{truth_named}
use Rattle.types_info.proofs.predeclared.value_of.Goals as goal

pub returns-then-is_truth : goal.returns-then-is_truth
unfolding bound_of
returns-then-is_truth c = truth_named c.args.name.now (c.is_truth.ensures.0 c.if-is_truth.true)

pub nil_of-requires : goal.nil_of-requires
nil_of-requires c = λ h. false≢true (sym c.if-is_truth.false ∙ c.is_truth.ensures.1 h)
