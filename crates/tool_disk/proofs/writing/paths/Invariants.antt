-- The invariants of the loops of `writing::paths`.
use Rattle.std.proofs.Common.{◌≡◌, take}
use Rattle.tool_disk.specs.Writes.{paths_of}
use Rattle.tool_disk.proofs.writing.paths.Given as goal

abbrev pub invariant-loop-file : goal.invariant-loop-file
invariant-loop-file l = l.paths.items ≡ paths_of (take l.file-index l.files)
