-- The invariants of the loops of `seeing::states_by`.
use Rattle.std.proofs.Common.{take}
use Rattle.workspace_graph.specs.Graphs.{OfPackage}
use Rattle.types_declared.specs.States.{state_in}
use Rattle.workspace_check.specs.KnownFindings.{verdicts_by}
use Rattle.workspace_check.proofs.Noting.{AreNoted}
use Rattle.workspace_check.proofs.seeing.states_by.Given as goal

abbrev pub invariant-loop-import : goal.invariant-loop-import
invariant-loop-import l =
    OfPackage l.graph l.number (λ p. AreNoted l.graph (verdicts_by l.all) p (take l.import-index l.import-items) (state_in l.noted.states))
