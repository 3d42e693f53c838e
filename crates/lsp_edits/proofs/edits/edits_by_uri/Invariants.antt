-- The invariants of the loops of `edits::edits_by_uri`.
use Rattle.std.proofs.Common.{take}
use Rattle.serde_json.specs.Data.{no_members}
use Rattle.serde_json.specs.View.{members_view}
use Rattle.lsp_edits.specs.Edits.{PutAllEdits}
use Rattle.lsp_edits.proofs.edits.edits_by_uri.Given as goal

-- the edits of the changes so far
abbrev pub invariant-loop-change : goal.invariant-loop-change
invariant-loop-change l = PutAllEdits l.telling l.files (take l.change-index l.changes) no_members (members_view l.edits.entries)
