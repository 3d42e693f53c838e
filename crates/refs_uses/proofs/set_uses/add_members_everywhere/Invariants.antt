-- What the loop of `set_uses::add_members_everywhere` keeps.
use Rattle.std.specs.Prelude.{None}
use Rattle.refs_binding.specs.Steps.{AddsPlaces}
use Rattle.refs_binding.specs.Workspaces.{known_in, IsUseAt}
use Rattle.refs_binding.proofs.Adding.{Below}
use Rattle.refs_uses.specs.SoughtMembers.{IsPlaceOfSome}
use Rattle.refs_uses.proofs.set_uses.add_members_everywhere.Given as goal

-- the uses in the packages that were passed were added
abbrev pub invariant-loop-number : goal.invariant-loop-number
invariant-loop-number l =
    AddsPlaces l.initial.spots.items l.spots.items
    (Below (λ number. IsPlaceOfSome l.sought.set.now (λ d. IsUseAt l.workspace.graph (known_in l.workspace.findings) d None number)) l.number)
