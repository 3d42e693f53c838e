-- The imports in the graph are those in its view.
use Rattle.refs_binding.proofs.faultless.FaultlessWorkspace.imports.Goals as goal

pub returns-clause-imports : goal.returns-clause-imports
returns-clause-imports c = rw (← c.self.view_is) c.imports.ensures.imports
