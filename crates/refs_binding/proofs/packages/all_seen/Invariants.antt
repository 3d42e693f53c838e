-- The packages that were passed.
use Rattle.refs_binding.specs.Packages.{HoldsOfEach, IsSeenBy}
use Rattle.refs_binding.specs.Workspaces.{known_in}
use Rattle.refs_binding.proofs.packages.all_seen.Given as goal

abbrev pub invariant-loop-number : goal.invariant-loop-number
invariant-loop-number l = HoldsOfEach (IsSeenBy l.workspace.graph (known_in l.workspace.findings)) l.number l.all.items
