-- Maps of fields are equal entry by entry.
use Rattle.types_expr.specs.WorldView.{field_of}
use Rattle.types_check.proofs.Values.{by_entries}
use Rattle.types_check.proofs.equal_definitions.are_same_fields.Goals as goal

pub returns : goal.returns
returns c = by_entries field_of c.args.one.now.entries c.args.other.now.entries c.are_maps_alike.result c.are_maps_alike.ensures
