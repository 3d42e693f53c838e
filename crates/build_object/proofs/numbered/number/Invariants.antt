-- The invariants of the loops of `numbered::number`.
use Rattle.std.proofs.Common.{ℕ, ◌≡◌, take}
use Rattle.std.specs.BTreeMap.{get}
use Rattle.std.specs.Ordering.{nat_cmp}
use Rattle.build_object.specs.Numbering.{slot_of}
use Rattle.build_object.proofs.numbered.number.Given as goal

abbrev pub invariant-loop-i : goal.invariant-loop-i
invariant-loop-i l = (place : ℕ) → get nat_cmp l.numbers place ≡ slot_of (take l.i l.places) place
