-- A conflict as a refusal: `Lost` without a capturer, else `Captured` with the place of the capturer, if it has one.
use Rattle.std.specs.Prelude.{Option, Some, None}
use Rattle.base_files.specs.declared.place.Place.{Place}
use Rattle.base_files.specs.declared.refusal.Refusal.{Refusal}
use Rattle.base_files.specs.declared.refusal.Refusal.TheVariants.{Captured, Lost}
use Rattle.refactor_conflict.specs.declared.conflict.Capturer.{Capturer}
use Rattle.refactor_conflict.specs.declared.conflict.Capturer.TheVariants.{Universe, At}

abbrev pub refusal_for : Option Capturer → Place → Refusal
refusal_for None used = Lost used
refusal_for (Some Universe) used = Captured used None
refusal_for (Some (At place)) used = Captured used (Some place)
