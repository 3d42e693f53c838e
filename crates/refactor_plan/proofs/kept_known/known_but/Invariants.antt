-- The invariants of the loops of `kept_known::known_but`.
use Rattle.std.proofs.Common.{◌≡◌, length}
use Rattle.workspace_graph.specs.Search.{IsMarked}
use Rattle.law_renamed_workspaces.specs.KnownVerdicts.{HoldVerdictsBut}
use Rattle.refactor_plan.proofs.kept_known.known_but.Given as goal

abbrev pub invariant-loop-number : goal.invariant-loop-number
invariant-loop-number l =
    (length l.rest.verdicts.items ≡ l.number) × HoldVerdictsBut (IsMarked l.dropped) l.known.verdicts.items l.rest.verdicts.items
