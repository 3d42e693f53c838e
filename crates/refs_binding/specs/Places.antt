-- The order of places.
use Rattle.std.specs.Ordering.{nat_cmp, ordering_then}
use Rattle.std.specs.declared.cmp.Ordering.{Ordering}
use Rattle.base_files.specs.Workspace.{path_cmp}
use Rattle.base_files.specs.declared.place.Place.{Place}

-- Compares places by the bytes of the path, then by offset.
abbrev pub place_cmp : Place → Place → Ordering
place_cmp a b = ordering_then (path_cmp a.path b.path) (nat_cmp a.offset b.offset)
