-- The invariants of the loops of `offsets::offset_at`.
use Rattle.std.proofs.Common.{◌≡◌}
use Rattle.lsp_position.specs.Positions.{editor_position}
use Rattle.lsp_position.proofs.Searching.{HasFound}
use Rattle.lsp_position.proofs.offsets.offset_at.Given as goal

abbrev pub invariant-loop-number : goal.invariant-loop-number
invariant-loop-number l = record {
  at : l.at ≡ editor_position l.encoding l.text l.number;
  found : HasFound l.encoding l.text l.asked l.number l.found;
}
