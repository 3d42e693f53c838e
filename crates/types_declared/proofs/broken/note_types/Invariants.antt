-- The invariants of the loops of `broken::note_types`.
use Rattle.std.proofs.Common.{take}
use Rattle.types_declared.specs.PackageView.{package_of}
use Rattle.types_declared.specs.Broken.{AddsLinks, IsTargetOfSome}
use Rattle.types_declared.proofs.Mentioning.{type_list}
use Rattle.types_declared.proofs.broken.note_types.Given as goal

abbrev pub invariant-loop-written : goal.invariant-loop-written
invariant-loop-written l = AddsLinks l.initial.links.items l.links.items l.at.rank
    (IsTargetOfSome (package_of l.pkg) l.at.file (type_list (take l.written-index l.types)))
