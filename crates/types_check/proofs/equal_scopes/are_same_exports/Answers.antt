-- Maps of exports are equal entry by entry.
use Rattle.types_declared.specs.ExportTablesView.{export_of}
use Rattle.types_check.proofs.Values.{by_entries}
use Rattle.types_check.proofs.equal_scopes.are_same_exports.Goals as goal

pub returns : goal.returns
returns c = by_entries export_of c.args.one.now.entries c.args.other.now.entries c.are_maps_alike.result c.are_maps_alike.ensures
