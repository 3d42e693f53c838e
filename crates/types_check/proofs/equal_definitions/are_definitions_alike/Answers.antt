-- Lists of definitions are equal item by item.
use Rattle.types_check.specs.Known.{known_definition}
use Rattle.types_check.proofs.Values.{by_values}
use Rattle.types_check.proofs.equal_definitions.are_definitions_alike.Goals as goal

pub returns : goal.returns
returns c = by_values known_definition c.args.one.now c.args.other.now c.are_lists_alike.result c.are_lists_alike.ensures
