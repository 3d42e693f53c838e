-- The invariants of the loops of `looking_back::add_states`.
use Rattle.std.proofs.Common.{◌≡◌, ◌++◌, map, take}
use Rattle.history_machine.specs.Resting.{seen_resting}
use Rattle.history_book.proofs.looking_back.add_states.Given as goal

-- the states so far
abbrev pub invariant-loop-state : goal.invariant-loop-state
invariant-loop-state l = l.shown ≡ l.initial.shown ++ map seen_resting (take l.state-index l.states)
