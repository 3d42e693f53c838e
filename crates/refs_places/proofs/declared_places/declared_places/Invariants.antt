-- The places of the packages that were passed.
use Rattle.refs_binding.specs.Workspaces.{known_in}
use Rattle.refs_places.specs.DeclaredPlaces.{AreDeclaredBelow}
use Rattle.refs_places.proofs.declared_places.declared_places.Given as goal

abbrev pub invariant-loop-number : goal.invariant-loop-number
invariant-loop-number l = AreDeclaredBelow l.packages.workspace.now.graph (known_in l.packages.workspace.now.findings) l.number l.all.items
