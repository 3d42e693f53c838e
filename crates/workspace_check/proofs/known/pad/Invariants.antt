-- The invariants of the loops of `known::pad`.
use Rattle.std.proofs.Common.{◌≡◌, length}
use Rattle.std.specs.Prelude.{vec_capacity}
use Rattle.workspace_check.specs.Found.{HoldSameVerdicts}
use Rattle.workspace_check.proofs.known.pad.Given as goal

abbrev pub invariant-loop-place : goal.invariant-loop-place
invariant-loop-place l = record {
  size : length l.verdicts.items ≡ l._place;
  same : HoldSameVerdicts l.initial.verdicts.items l.verdicts.items;
  room : vec_capacity l.verdicts ≡ vec_capacity l.initial.verdicts;
}
