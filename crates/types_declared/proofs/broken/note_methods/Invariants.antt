-- The invariants of the loops of `broken::note_methods`.
use Rattle.std.proofs.Common.{take}
use Rattle.types_declared.specs.PackageView.{package_of}
use Rattle.types_declared.specs.Broken.{AddsLinks, IsTargetOfSome}
use Rattle.types_declared.proofs.Mentioning.{method_list}
use Rattle.types_declared.proofs.broken.note_methods.Given as goal

abbrev pub invariant-loop-method : goal.invariant-loop-method
invariant-loop-method l = AddsLinks l.initial.links.items l.links.items l.at.rank
    (IsTargetOfSome (package_of l.pkg) l.at.file (method_list (take l.method-index l.methods)))
