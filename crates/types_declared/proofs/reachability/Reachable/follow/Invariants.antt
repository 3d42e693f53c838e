-- The invariants of the loops of `spread::Reachable::follow`.
use Rattle.types_declared.specs.Reachability.{ListsMarks, AddsMarks}
use Rattle.types_declared.proofs.ReachableParts.{IsPassed}
use Rattle.types_declared.proofs.reachability.Reachable.follow.Given as goal

abbrev pub invariant-loop-number : goal.invariant-loop-number
invariant-loop-number l = record {
  listed : ListsMarks l.self.found.items l.self.marks.items;
  marked : AddsMarks l.initial.self.found.items l.initial.self.marks.items l.self.found.items l.self.marks.items (IsPassed l.number-items l.number-index);
}
