-- The packages of the drafts that were passed.
use Rattle.std.proofs.Common.{◌≡◌}
use Rattle.workspace_graph.specs.Drafts.{packages_of}
use Rattle.workspace_graph.proofs.drafts.shared.Given as goal

abbrev pub invariant-loop-draft : goal.invariant-loop-draft
invariant-loop-draft l = l.packages.items ≡ packages_of l.yielded
