-- The invariants of the loops of `broken::note_fields`.
use Rattle.std.proofs.Common.{take}
use Rattle.types_declared.specs.PackageView.{package_of}
use Rattle.types_declared.specs.Broken.{AddsLinks, IsTargetOfSome}
use Rattle.types_declared.proofs.Mentioning.{field_types}
use Rattle.types_declared.proofs.broken.note_fields.Given as goal

abbrev pub invariant-loop-field : goal.invariant-loop-field
invariant-loop-field l = AddsLinks l.initial.links.items l.links.items l.at.rank
    (IsTargetOfSome (package_of l.pkg) l.at.file (field_types (take l.field-index l.fields)))
