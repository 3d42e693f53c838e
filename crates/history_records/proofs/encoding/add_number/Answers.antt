-- The eight bytes are added.
use Rattle.std.specs.Int.{to_le_bytes, w64}
use Rattle.history_records.specs.Encoded.{number_bytes}
use Rattle.history_records.proofs.Coded.{added}
use Rattle.history_records.proofs.encoding.add_number.Goals as goal

pub returns : goal.returns
unfolding number_bytes
returns c =
    added c.extend_from_slice.result c.args.made.now.items c.extend_from_slice.new.self.items c.to_le_bytes.result (to_le_bytes w64 c.args.number)
    c.extend_from_slice.ensures.items c.to_le_bytes.ensures
