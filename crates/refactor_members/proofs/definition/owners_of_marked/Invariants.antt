-- What the loop of `definition::owners_of_marked` keeps.
use Rattle.refs_binding.specs.Packages.{HoldsOfEach}
use Rattle.refs_binding.specs.Workspaces.{known_in}
use Rattle.refactor_members.specs.Owning.{AreOwnersIfMarked}
use Rattle.refactor_members.proofs.definition.owners_of_marked.Given as goal

-- the packages that were passed
abbrev pub invariant-loop-number : goal.invariant-loop-number
invariant-loop-number l =
    HoldsOfEach (AreOwnersIfMarked l.workspace.graph (known_in l.workspace.findings) l.marks) l.number l.all.items
