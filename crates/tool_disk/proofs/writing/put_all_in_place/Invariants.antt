-- The invariants of the loops of `writing::put_all_in_place`.
use Rattle.std.proofs.Common.{◌≡◌, ◌++◌, take}
use Rattle.tool_text.specs.Journal.{lines_text}
use Rattle.tool_disk.proofs.writing.put_all_in_place.Given as goal

abbrev pub invariant-loop-path : goal.invariant-loop-path
invariant-loop-path g l = l.done.items ≡ l.fn.done.items ++ lines_text (take l.path-index l.run.paths.items)
