-- One value further.
use Rattle.std.proofs.Common.{append-nil, sym}
use Rattle.history_records.specs.Encoded.{IsEdit, edit_bytes}
use Rattle.history_records.proofs.Coded.{each_more, taken_more}
use Rattle.history_records.proofs.encoding.add_each_edit.Goals as goal

pub loop-edit-init : goal.loop-edit-init
loop-edit-init c = record { bytes = sym (append-nil c.args.made.now.items); kept = tt }

pub loop-edit-preserved : goal.loop-edit-preserved
loop-edit-preserved c = record {
  bytes = each_more edit_bytes c.args.made.now.items c.loop-edit.made.items c.add_edit.new.made.items c.args.edits.now c.loop-edit.edit-index
      c.edit-item.result c.loop-edit-test.true c.edit-item.is c.loop-edit.invariant.bytes c.in_ok-add_edit.ensures.bytes;
  kept = taken_more IsEdit c.args.edits.now c.loop-edit.edit-index c.edit-item.result c.loop-edit-test.true c.edit-item.is
      c.loop-edit.invariant.kept c.in_ok-add_edit.ensures.kept;
}
