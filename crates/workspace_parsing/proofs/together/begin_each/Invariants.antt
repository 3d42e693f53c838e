-- A thread was begun for each share that was passed.
use Rattle.std.proofs.Common.{◌≡◌, length}
use Rattle.workspace_parsing.specs.Promises.{PromiseShares}
use Rattle.workspace_parsing.proofs.together.begin_each.Given as goal

abbrev pub invariant-loop-number : goal.invariant-loop-number
invariant-loop-number g l = record {
  size : l.number ≡ length l.threads.items;
  shares : PromiseShares l.files l.threads.items;
}
