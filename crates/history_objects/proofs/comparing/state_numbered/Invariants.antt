-- The invariants of the loops of `comparing::state_numbered`.
use Rattle.std.proofs.Common.{◌≡◌, ◌<◌, ℕ}
use Rattle.std.specs.Prelude.{slice_index_or}
use Rattle.history_machine.specs.declared.seen_state.SeenState.{SeenState}
use Rattle.history_objects.proofs.comparing.state_numbered.Given as goal

-- no state so far has the number
abbrev pub invariant-loop-state : goal.invariant-loop-state
invariant-loop-state l = (k : ℕ) → k < l.state-index → (s : SeenState) → slice_index_or l.states k s ≡ s → s.number ≡ l.number → ⊥
