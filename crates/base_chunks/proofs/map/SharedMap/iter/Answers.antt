-- The iterator shows what it has left.
use Rattle.std.specs.Map.Iter.{deref_pair}
use Rattle.base_chunks.proofs.Stepping.{shows_in_order}
use Rattle.base_chunks.proofs.map.SharedMap.iter.Goals as goal

pub returns-clause-runs : goal.returns-clause-runs
returns-clause-runs g c = shows_in_order deref_pair
