-- Lists of types are equal item by item.
use Rattle.types_expr.specs.View.{type_of}
use Rattle.types_check.proofs.Values.{by_values}
use Rattle.types_check.proofs.equal_definitions.are_same_types.Goals as goal

pub returns : goal.returns
returns c = by_values type_of c.args.one.now c.args.other.now c.are_lists_alike.result c.are_lists_alike.ensures
