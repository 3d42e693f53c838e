-- What the loop of `workspace_uses::add_uses_of_each` keeps.
use Rattle.std.proofs.Common.{take}
use Rattle.refs_binding.specs.Steps.{AddsPlaces}
use Rattle.refs_binding.specs.Workspaces.{known_in}
use Rattle.refs_uses.specs.UsesOfEach.{IsUseOfSome}
use Rattle.refs_uses.proofs.workspace_uses.add_uses_of_each.Given as goal

-- the uses of the declarations that were passed were added
abbrev pub invariant-loop-declaration : goal.invariant-loop-declaration
invariant-loop-declaration l =
    AddsPlaces l.initial.spots.items l.spots.items
    (IsUseOfSome l.read.workspace.now.graph (known_in l.read.workspace.now.findings) (take l.declaration-index l.set))
