-- The items so far are copied.
use Rattle.std.proofs.Common.{◌≡◌, ◌++◌, take}
use Rattle.base_chunks.proofs.copies.add_copies.Given as goal

abbrev pub invariant-loop-item : goal.invariant-loop-item
invariant-loop-item g l = l.to.items ≡ l.initial.to.items ++ take l.item-index l.from
