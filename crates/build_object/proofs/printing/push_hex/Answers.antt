-- The answers to the goals of `printing::push_hex`.
use Rattle.std.proofs.Common.{refl}
use Rattle.std.specs.List.{flat_map}
use Rattle.build_object.specs.Text.{hex_byte}
use Rattle.build_object.proofs.Loops.{rest_at}
use Rattle.build_object.proofs.printing.push_hex.Goals as goal

pub loop-byte-preserved : goal.loop-byte-preserved
loop-byte-preserved c = rest_at (flat_map hex_byte) hex_byte (λ x xs. refl) _ c.loop-byte.text.items c.push_hex_byte.new.text.items c.args.bytes.now
    c.loop-byte.byte-index _ c.loop-byte-test.true c.loop-byte.invariant c.in_ok-push_hex_byte.ensures
