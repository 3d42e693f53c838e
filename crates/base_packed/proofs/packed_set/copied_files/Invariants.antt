-- The files so far are copied.
use Rattle.std.proofs.Common.{◌≡◌, take}
use Rattle.base_packed.proofs.packed_set.copied_files.Given as goal

abbrev pub invariant-loop-file : goal.invariant-loop-file
invariant-loop-file l = l.copies.items ≡ take l.file-index l.files
