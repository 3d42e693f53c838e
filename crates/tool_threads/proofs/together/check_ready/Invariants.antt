-- What is known is right, there is a place for each package, and the threads promise verdicts on packages of this workspace.
use Rattle.std.proofs.Common.{◌≡◌, ◌≤◌, length}
use Rattle.std.specs.List.{All}
use Rattle.base_files.specs.Packages.{package_paths}
use Rattle.workspace_check.specs.Found.{KnowsVerdicts}
use Rattle.tool_threads.proofs.together.check_ready.Given as goal

abbrev pub invariant-loop-joined : goal.invariant-loop-joined
invariant-loop-joined g l = record {
  room : length (package_paths l.graph) ≤ length l.known.verdicts.items;
  known : KnowsVerdicts l.graph l.known;
  threads : All (λ thread. thread.promise.graph.value ≡ l.graph) l.begun.threads.items;
}
