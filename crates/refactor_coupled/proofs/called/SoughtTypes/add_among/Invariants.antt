-- The symbols of the sought ones among the definitions that were passed were added.
use Rattle.refs_binding.specs.Bindings.{AddsAll}
use Rattle.refs_binding.proofs.AddingAll.{BelowAll}
use Rattle.refactor_coupled.specs.Called.{IsSoughtAt}
use Rattle.refactor_coupled.proofs.called.SoughtTypes.add_among.Given as goal

abbrev pub invariant-loop-rank : goal.invariant-loop-rank
invariant-loop-rank l =
    AddsAll l.initial.found.items l.found.items
    (BelowAll (IsSoughtAt l.self.types.now l.self.old.now l.self.new.now l.self.only_interfaces l.path l.own) l.rank)
