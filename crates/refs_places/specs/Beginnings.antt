-- Borrowed places, and whether a bound identifier begins at a place.
use Rattle.std.specs.Prelude.{◌≡◌}
use Rattle.base_files.specs.declared.place.Place.{Place}
use Rattle.refs_places.specs.declared.places.NameStart.{NameStart}

-- The place of a `NameStart`.
abbrev pub place_of : NameStart → Place
place_of b = record { path = b.path.now; offset = b.offset }
