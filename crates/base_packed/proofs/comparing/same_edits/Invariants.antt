-- The edits before `i` stand for equal edits.
use Rattle.std.proofs.Common.{◌≡◌, map, take}
use Rattle.base_packed.specs.Packed.{unpacked_edit}
use Rattle.base_packed.proofs.comparing.same_edits.Given as goal

abbrev pub invariant-loop-i : goal.invariant-loop-i
invariant-loop-i l = take l.i (map (unpacked_edit l.kinds) l.edits) ≡ take l.i (map (unpacked_edit l.other_kinds) l.others)
