-- The symbols of the sought type definitions of the packages that were passed were added.
use Rattle.base_files.specs.Packages.{package_paths}
use Rattle.refs_binding.specs.Bindings.{AddsAll}
use Rattle.refs_binding.proofs.AddingAll.{BelowAll}
use Rattle.refactor_coupled.specs.Called.{IsSoughtOf}
use Rattle.refactor_coupled.proofs.called.SoughtTypes.in_all.Given as goal

abbrev pub invariant-loop-number : goal.invariant-loop-number
invariant-loop-number l =
    AddsAll l.initial.found.items l.found.items
    (BelowAll (IsSoughtOf l.self.types.now l.self.old.now l.self.new.now l.self.only_interfaces (package_paths l.workspace.graph)) l.number)
