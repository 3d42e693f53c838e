-- The answers to the goals of `predeclared::predeclared`.
use Rattle.types_expr.specs.View.{type_of}
use Rattle.types_expr.specs.WorldView.{bound_of}
use Rattle.types_info.proofs.DeclaredMeanings.{type_named}
use Rattle.types_info.proofs.predeclared.predeclared.Goals as goal

pub returns-in-Some : goal.returns-in-Some
unfolding bound_of type_of
returns-in-Some c = type_named c.args.name.now c.in-Some.basic c.in-Some.ensures
