-- The answers to the goals of `predeclared::operand_of`.
use Rattle.std.specs.Prelude.{option_map}
use Rattle.types_expr.specs.WorldView.{bound_of}
use Rattle.types_info.proofs.DeclaredMeanings.{function_named, value_else}
use Rattle.types_info.proofs.predeclared.operand_of.Goals as goal

pub returns-in-None : goal.returns-in-None
returns-in-None c = value_else c.args.name.now (option_map bound_of c.value_of.result) c.requires c.in-None.ensures c.value_of.ensures

pub returns-in-Some : goal.returns-in-Some
unfolding bound_of
returns-in-Some c = function_named c.args.name.now c.in-Some.builtin c.in-Some.ensures
