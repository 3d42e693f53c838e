-- The order of places: by the bytes of their paths, then by their offsets.
use Rattle.std.specs.Prelude.{◌≡◌}
use Rattle.std.specs.declared.cmp.Ordering.TheVariants.{Less}
use Rattle.base_files.specs.declared.place.Place.{Place}
use Rattle.refs_binding.specs.Places.{place_cmp}

-- The place `b` comes after the place `a`, or equals it.
abbrev pub IsNotBefore : Place → Place → Type 0
IsNotBefore b a = place_cmp b a ≡ Less → ⊥
