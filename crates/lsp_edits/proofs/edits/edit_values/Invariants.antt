-- The invariants of the loops of `edits::edit_values`.
use Rattle.std.proofs.Common.{◌≡◌, map, take}
use Rattle.serde_json.specs.View.{view}
use Rattle.lsp_edits.specs.Edits.{edit_data}
use Rattle.lsp_edits.proofs.edits.edit_values.Given as goal

abbrev pub invariant-loop-edit : goal.invariant-loop-edit
invariant-loop-edit l = map view l.values.items ≡ map (edit_data l.encoding l.text) (take l.edit-index l.edits)
