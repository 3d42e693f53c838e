-- One value further.
use Rattle.std.proofs.Common.{append-nil, sym}
use Rattle.history_records.specs.Encoded.{IsAddedFile, added_bytes}
use Rattle.history_records.proofs.Coded.{each_more, taken_more}
use Rattle.history_records.proofs.encoding.add_each_file.Goals as goal

pub loop-file-init : goal.loop-file-init
loop-file-init c = record { bytes = sym (append-nil c.args.made.now.items); kept = tt }

pub loop-file-preserved : goal.loop-file-preserved
loop-file-preserved c = record {
  bytes = each_more added_bytes c.args.made.now.items c.loop-file.made.items c.add_file.new.made.items c.args.added.now c.loop-file.file-index
      c.file-item.result c.loop-file-test.true c.file-item.is c.loop-file.invariant.bytes c.in_ok-add_file.ensures.bytes;
  kept = taken_more IsAddedFile c.args.added.now c.loop-file.file-index c.file-item.result c.loop-file-test.true c.file-item.is
      c.loop-file.invariant.kept c.in_ok-add_file.ensures.kept;
}
