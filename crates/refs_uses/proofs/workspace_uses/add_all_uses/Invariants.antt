-- The invariants of the loops of `workspace_uses::add_all_uses`.
use Rattle.go_scope.specs.Named.{name_value}
use Rattle.refs_binding.specs.Steps.{AddsPlaces}
use Rattle.refs_binding.specs.Workspaces.{known_in, IsUseAt}
use Rattle.refs_binding.proofs.Adding.{Below}
use Rattle.refs_uses.proofs.workspace_uses.add_all_uses.Given as goal

-- the uses in the packages that were passed were added
abbrev pub invariant-loop-number : goal.invariant-loop-number
invariant-loop-number l =
    AddsPlaces l.initial.spots.items l.spots.items
    (Below (IsUseAt l.workspace.graph (known_in l.workspace.findings) l.sought.declaration.now (name_value l.sought.name)) l.number)
