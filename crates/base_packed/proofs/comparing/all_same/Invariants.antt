-- Both lists agree in the elements before `i`.
use Rattle.std.proofs.Common.{◌≡◌, take}
use Rattle.base_packed.proofs.comparing.all_same.Given as goal

abbrev pub invariant-loop-i : goal.invariant-loop-i
invariant-loop-i g l = take l.i l.one ≡ take l.i l.other
