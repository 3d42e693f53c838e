-- The changes so far are packed.
use Rattle.std.proofs.Common.{take}
use Rattle.base_packed.specs.Packing.{AddsChanges}
use Rattle.base_packed.proofs.packing.pack.Given as goal

abbrev pub invariant-loop-change : goal.invariant-loop-change
invariant-loop-change l = AddsChanges l.initial.packing l.packing (take l.change-index l.changed)
