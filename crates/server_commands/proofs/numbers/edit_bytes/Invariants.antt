-- The bytes of the files and changes that were passed are counted.
use Rattle.std.specs.Prelude.{◌≡◌, ◌+◌, length, sum_by, take}
use Rattle.std.specs.Io.Iter.{u64_saturate}
use Rattle.base_edits.specs.Moved.{added_by}
use Rattle.server_commands.proofs.numbers.edit_bytes.Given as goal

abbrev pub invariant-loop-file : goal.invariant-loop-file
invariant-loop-file l = l.bytes ≡ u64_saturate (sum_by (λ file. length file.1) (take l.file-index l.file-items))

abbrev pub invariant-loop-change : goal.invariant-loop-change
invariant-loop-change l =
    l.bytes ≡ u64_saturate (sum_by (λ file. length file.1) l.set.added + sum_by (λ change. added_by change.edits) (take l.change-index l.change-items))
