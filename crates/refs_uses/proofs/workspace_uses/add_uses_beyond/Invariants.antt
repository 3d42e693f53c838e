-- The invariants of the loops of `workspace_uses::add_uses_beyond`.
use Rattle.go_scope.specs.Named.{name_value}
use Rattle.refs_binding.specs.Steps.{AddsPlaces}
use Rattle.refs_binding.specs.Workspaces.{known_in, IsUseAt}
use Rattle.refs_binding.proofs.Adding.{Below}
use Rattle.refs_uses.proofs.workspace_uses.add_uses_beyond.Given as goal

-- the uses in the packages that were passed were added
abbrev pub invariant-loop-number : goal.invariant-loop-number
invariant-loop-number l =
    AddsPlaces l.initial.spots.items l.spots.items
    (Below (IsUseAt l.read.workspace.now.graph (known_in l.read.workspace.now.findings) l.sought.declaration.now (name_value l.sought.name)) l.number)
