-- The answers to the goals of `edits::edit_values`.
use Rattle.serde_json.specs.View.{view}
use Rattle.lsp_edits.specs.Edits.{edit_data}
use Rattle.lsp_edits.proofs.Collecting.{mapped_next}
use Rattle.lsp_edits.proofs.edits.edit_values.Goals as goal

pub loop-edit-preserved : goal.loop-edit-preserved
loop-edit-preserved c =
    mapped_next (edit_data c.args.encoding c.args.text.now) view c.args.edits.now c.loop-edit.values.items c.push.new.self.items c.loop-edit.edit-index
    c.edit-item.result c.in_ok-value.value c.loop-edit-test.true c.edit-item.is c.in_ok-push.ensures.items c.in_ok-value.ensures c.loop-edit.invariant
