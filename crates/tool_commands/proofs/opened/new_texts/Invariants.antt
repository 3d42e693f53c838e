-- The invariants of the loops of `opened::new_texts`.
use Rattle.std.proofs.Common.{◌≡◌, take}
use Rattle.tool_disk.specs.Writes.{file_parts}
use Rattle.tool_commands.specs.Told.{text_parts}
use Rattle.tool_commands.proofs.opened.new_texts.Given as goal

abbrev pub invariant-loop-rewrite : goal.invariant-loop-rewrite
invariant-loop-rewrite l = file_parts l.new.items ≡ text_parts (take l.rewrite-index l.rewrites)
