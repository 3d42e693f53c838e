-- The tokens moved so far, with room for all.
use Rattle.std.proofs.Common.{◌-◌, ◌≤◌, length, vec_capacity}
use Rattle.go_respelled.specs.Replaced.{AreMoved}
use Rattle.go_respelled.proofs.moved.moved_tokens.Given as goal

abbrev pub invariant-loop-cursor : goal.invariant-loop-cursor
invariant-loop-cursor l = record {
  so_far : AreMoved l.edits l.tokens l.cursor l.moved.items;
  room : length l.tokens ≤ vec_capacity l.moved;
}

abbrev pub decreases-loop-cursor : goal.decreases-loop-cursor
decreases-loop-cursor l = length l.tokens - length l.moved.items
