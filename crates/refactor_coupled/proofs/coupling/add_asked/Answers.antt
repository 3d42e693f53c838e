-- The answers to the goals of `coupling::add_asked`.
use Rattle.refactor_coupled.proofs.RenamedSets.{nothing_asks}
use Rattle.refactor_coupled.proofs.coupling.add_asked.Goals as goal

pub returns-in-None : goal.returns-in-None
returns-in-None c = nothing_asks c.args.workspace.now c.has_no_faults.ensures c.args.set.now.items c.args.symbol.now c.requires c.in-None.ensures
