-- The bytes of the edits that were passed are counted.
use Rattle.std.specs.Prelude.{◌≡◌, ◌+◌, take}
use Rattle.std.specs.Io.Iter.{u64_saturate}
use Rattle.base_edits.specs.Moved.{added_by}
use Rattle.server_commands.proofs.numbers.with_edits.Given as goal

abbrev pub invariant-loop-edit : goal.invariant-loop-edit
invariant-loop-edit l = l.bytes ≡ u64_saturate (l.before + added_by (take l.edit-index l.edits))
