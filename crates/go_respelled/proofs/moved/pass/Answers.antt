-- An edit that ends at or before the offset is passed: its end moves to the moved offset at most.
use Rattle.std.proofs.Common.{arith}
use Rattle.base_edits.proofs.Steps.{past_more}
use Rattle.go_respelled.specs.Replaced.{passed}
use Rattle.go_respelled.proofs.moved.pass.Goals as goal

pub next-cursor-requires-clause-fits : goal.next-cursor-requires-clause-fits
next-cursor-requires-clause-fits c =
    let more = past_more c.args.edits.now c.args.offset (passed c.loop-cursor.cursor) c.index-edits-cursor.result c.loop-cursor.invariant
    (omega (arith, c.loop-cursor-test.true)) c.index-edits-cursor.is (omega (arith, c.if-offset-edit.false)) in
    omega (arith, more.fits, c.requires.fits)
