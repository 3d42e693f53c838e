-- Each turn retires one inverse, and the list keeps its room.
use Rattle.std.proofs.Common.{◌≡◌, length, vec_capacity}
use Rattle.history_inverses.proofs.rows.retire_all.Given as goal

abbrev pub invariant-loop-inverse : goal.invariant-loop-inverse
invariant-loop-inverse l = vec_capacity l.inverses ≡ vec_capacity l.initial.inverses

abbrev pub decreases-loop-inverse : goal.decreases-loop-inverse
decreases-loop-inverse l = length l.inverses.items
