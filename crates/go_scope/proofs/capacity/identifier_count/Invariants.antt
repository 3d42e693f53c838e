-- Each file adds at most its tokens.
use Rattle.std.proofs.Common.{◌≤◌, ◌+◌, length, take}
use Rattle.go_scope.specs.FileSites.{universe}
use Rattle.go_scope.specs.Room.{token_count}
use Rattle.go_scope.proofs.capacity.identifier_count.Given as goal

abbrev pub invariant-loop-rank : goal.invariant-loop-rank
invariant-loop-rank l = l.count ≤ length universe + token_count (take l.rank l.files)
