-- One value further.
use Rattle.std.proofs.Common.{append-nil, sym}
use Rattle.history_records.specs.Encoded.{IsFileChange, file_change_bytes}
use Rattle.history_records.proofs.Coded.{each_more, taken_more}
use Rattle.history_records.proofs.encoding.add_each_change.Goals as goal

pub loop-change-init : goal.loop-change-init
loop-change-init c = record { bytes = sym (append-nil c.args.made.now.items); kept = tt }

pub loop-change-preserved : goal.loop-change-preserved
loop-change-preserved c = record {
  bytes = each_more file_change_bytes c.args.made.now.items c.loop-change.made.items c.add_file_change.new.made.items c.args.changed.now
      c.loop-change.change-index
      c.change-item.result c.loop-change-test.true c.change-item.is c.loop-change.invariant.bytes c.in_ok-add_file_change.ensures.bytes;
  kept = taken_more IsFileChange c.args.changed.now c.loop-change.change-index c.change-item.result c.loop-change-test.true c.change-item.is
      c.loop-change.invariant.kept c.in_ok-add_file_change.ensures.kept;
}
