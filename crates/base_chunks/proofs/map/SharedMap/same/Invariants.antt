-- The maps are equal exactly if the remaining entries are.
use Rattle.std.proofs.Common.{◌≡◌, ◌↔◌}
use Rattle.base_chunks.proofs.map.SharedMap.same.Given as goal

abbrev pub invariant-loop-key : goal.invariant-loop-key
invariant-loop-key g l = record {
  can : (goal.iterator-loop-key g).can_next l.key-iterator;
  ends : (goal.iterator-loop-key g).is_finite l.key-iterator;
  left : (l.key-iterator ≡ l.others) ↔ (l.self ≡ l.other);
}
