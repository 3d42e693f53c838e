-- The invariants of the loops of `recursion::add_fields`.
use Rattle.std.proofs.Common.{take}
use Rattle.types_declared.specs.PackageView.{package_of}
use Rattle.types_members.specs.Recursion.{AddsItems, HasBareName}
use Rattle.types_declared.proofs.Mentioning.{field_types}
use Rattle.types_members.proofs.recursion.add_fields.Given as goal

abbrev pub invariant-loop-field : goal.invariant-loop-field
invariant-loop-field l = AddsItems l.initial.found.items l.found.items (HasBareName (package_of l.pkg) l.file (field_types (take l.field-index l.fields)))
