-- The invariants of the loops of `publications::lines_of`.
use Rattle.std.proofs.Common.{◌≡◌, string_bytes, take}
use Rattle.serde_json.specs.View.{items_view}
use Rattle.lsp_editor.specs.Publications.{compact_lines}
use Rattle.lsp_editor.proofs.publications.lines_of.Given as goal

-- the lines of the faults so far
abbrev pub invariant-loop-fault : goal.invariant-loop-fault
invariant-loop-fault l = string_bytes l.lines ≡ compact_lines (items_view (take l.fault-index l.faults))
