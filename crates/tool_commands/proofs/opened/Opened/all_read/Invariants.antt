-- The invariants of the loops of `opened::Opened::all_read`.
use Rattle.std.proofs.Common.{◌≡◌, ◌++◌}
use Rattle.std.specs.FinMap as map
use Rattle.std.specs.Prelude.{string_bytes}
use Rattle.tool_disk.specs.Writes.{file_parts}
use Rattle.tool_commands.specs.Told.{shown_texts}
use Rattle.tool_commands.proofs.opened.Opened.all_read.Given as goal

-- the files so far, and those that are left
abbrev pub invariant-loop-path : goal.invariant-loop-path
invariant-loop-path l =
    file_parts l.read.items ++ shown_texts (string_bytes l.self.prefix) l.path-iterator
    ≡ shown_texts (string_bytes l.self.prefix) (map.entries l.self.folder.files)
