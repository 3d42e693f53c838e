-- The invariants of the loops of `broken::note_params`.
use Rattle.std.proofs.Common.{take}
use Rattle.types_declared.specs.PackageView.{package_of}
use Rattle.types_declared.specs.Broken.{AddsLinks, IsTargetOfSome}
use Rattle.types_declared.proofs.Mentioning.{param_list}
use Rattle.types_declared.proofs.broken.note_params.Given as goal

abbrev pub invariant-loop-param : goal.invariant-loop-param
invariant-loop-param l = AddsLinks l.initial.links.items l.links.items l.at.rank
    (IsTargetOfSome (package_of l.pkg) l.at.file (param_list (take l.param-index l.params)))
