-- The answers to the goals of `predeclared::nil_of`.
use Rattle.std.proofs.Common.{◌∙◌, sym}
use Rattle.std.proofs.lemmas.Bool.{false≢true}
use Rattle.types_expr.specs.WorldView.{bound_of}
use Rattle.types_info.proofs.DeclaredMeanings.{nil_named}
use Rattle.types_info.proofs.predeclared.nil_of.Goals as goal

pub returns-then-is_nil : goal.returns-then-is_nil
unfolding bound_of
returns-then-is_nil c = nil_named c.args.name.now (c.is_nil.ensures.0 c.if-is_nil.true)

pub returns-else-is_nil : goal.returns-else-is_nil
returns-else-is_nil c = (c.requires, λ e. false≢true (sym c.if-is_nil.false ∙ c.is_nil.ensures.1 e))
