-- The maps are equal exactly where the rest of them is.
use Rattle.std.specs.Prelude.{◌↔◌}
use Rattle.std.specs.List.{AllZip}
use Rattle.types_check.specs.EqualEntries.{AreNamedAlike}
use Rattle.types_check.proofs.equality.are_maps_alike.Given as goal

abbrev pub invariant-loop-name : goal.invariant-loop-name
invariant-loop-name g l = AllZip (AreNamedAlike g.T.Alike.alike) l.name-iterator l.others ↔ AllZip (AreNamedAlike g.T.Alike.alike) l.one.entries l.other.entries
