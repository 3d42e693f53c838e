-- The edits so far are appended.
use Rattle.std.proofs.Common.{take}
use Rattle.base_packed.specs.Packing.{PacksEdits}
use Rattle.base_packed.proofs.packing.add_edits.Given as goal

abbrev pub invariant-loop-edit : goal.invariant-loop-edit
invariant-loop-edit l = PacksEdits l.initial.kinds.items l.kinds.items l.initial.packed.items l.packed.items (take l.edit-index l.edits)
