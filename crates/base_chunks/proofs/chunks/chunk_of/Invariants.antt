-- The key is above the chunks before low, and below those from high on.
use Rattle.std.proofs.Common.{◌-◌, ◌<◌, ◌≤◌, length, take, drop}
use Rattle.base_chunks.specs.Chunks.{joined}
use Rattle.base_chunks.specs.Entries.{IsAfterAll, IsBeforeAll}
use Rattle.base_chunks.proofs.chunks.chunk_of.Given as goal

abbrev pub invariant-halving : goal.invariant-halving
invariant-halving g l = record {
  order : l.low < l.high;
  within : l.high ≤ length l.chunks;
  front : IsAfterAll g.K.Ord.cmp l.key (joined (take l.low l.chunks));
  back : IsBeforeAll g.K.Ord.cmp l.key (joined (drop l.high l.chunks));
}

abbrev pub decreases-halving : goal.decreases-halving
decreases-halving g l = l.high - l.low
