-- All threads promise verdicts on packages of this workspace.
use Rattle.std.proofs.Common.{◌≡◌}
use Rattle.std.specs.List.{All}
use Rattle.tool_threads.proofs.together.begin_each.Given as goal

abbrev pub invariant-loop-number : goal.invariant-loop-number
invariant-loop-number g l = All (λ thread. thread.promise.graph.value ≡ l.graph) l.threads.items
