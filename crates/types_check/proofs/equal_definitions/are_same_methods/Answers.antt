-- Maps of methods are equal entry by entry.
use Rattle.types_expr.specs.WorldView.{plain_method_of}
use Rattle.types_check.proofs.Values.{by_entries}
use Rattle.types_check.proofs.equal_definitions.are_same_methods.Goals as goal

pub returns : goal.returns
returns c = by_entries plain_method_of c.args.one.now.entries c.args.other.now.entries c.are_maps_alike.result c.are_maps_alike.ensures
