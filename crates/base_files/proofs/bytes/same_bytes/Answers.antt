-- The answers to the goals of `bytes::same_bytes`.
use Rattle.std.proofs.Common.{◌≡◌, take, drop, rules, arith}
use Rattle.base_files.proofs.Blocks.{front_and_block, front_and_rest}
use Rattle.base_files.proofs.bytes.same_bytes.Goals as goal

pub loop-at-preserved : goal.loop-at-preserved
loop-at-preserved c =
    let at = c.loop-at.at in
    let one = c.args.one.now in
    let other = c.args.other.now in
    let block : take 64 (drop at one) ≡ take 64 (drop at other) = c.is_same_block.ensures.0 (search rules) in
    record { within = omega arith; long = c.loop-at.invariant.long; front = front_and_block at one other c.loop-at.invariant.front block }

pub returns : goal.returns
returns c =
    let whole = front_and_rest c.loop-at.at c.args.one.now c.args.other.now c.loop-at.invariant.front in
    let end = c.is_same_end.ensures in
    (λ same. whole.0 (end.0 same), λ same. end.1 (whole.1 same))
