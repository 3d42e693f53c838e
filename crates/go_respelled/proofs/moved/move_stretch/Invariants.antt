-- The tokens moved so far, with room for all. None is lost.
use Rattle.std.proofs.Common.{◌-◌, ◌≤◌, length, vec_capacity}
use Rattle.go_respelled.specs.Replaced.{AreMoved}
use Rattle.go_respelled.proofs.moved.move_stretch.Given as goal

abbrev pub invariant-loop-at : goal.invariant-loop-at
invariant-loop-at l = record {
  so_far : AreMoved l.edits l.tokens l.at.cursor l.moved.items;
  longer : length l.initial.moved.items ≤ length l.moved.items;
  room : length l.tokens ≤ vec_capacity l.moved;
}

abbrev pub decreases-loop-at : goal.decreases-loop-at
decreases-loop-at l = length l.tokens - length l.moved.items
