-- The packages that were passed.
use Rattle.refs_binding.specs.Packages.{HoldsOfEach, IsTableOf}
use Rattle.refs_binding.specs.Workspaces.{known_in}
use Rattle.refs_binding.proofs.packages.all_tables.Given as goal

abbrev pub invariant-loop-number : goal.invariant-loop-number
invariant-loop-number l = HoldsOfEach (IsTableOf l.workspace.graph (known_in l.workspace.findings) l.all) l.number l.tables.items
