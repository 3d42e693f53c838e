-- The invariants of the loops of `positions::position_at`.
use Rattle.std.proofs.Common.{◌≡◌}
use Rattle.lsp_position.specs.Positions.{editor_position}
use Rattle.lsp_position.proofs.positions.position_at.Given as goal

abbrev pub invariant-loop-number : goal.invariant-loop-number
invariant-loop-number l = l.at ≡ editor_position l.encoding l.text l.number
