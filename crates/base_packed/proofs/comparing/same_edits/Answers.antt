-- The edits at a place are compared, and stand for equal edits just where they are found to.
use Rattle.std.proofs.Common.{◌<◌, length, sym, ◌∙◌, arith}
use Rattle.std.proofs.lemmas.Bool.{false≢true}
use Rattle.base_packed.specs.Packed.{unpacked_edit}
use Rattle.base_packed.proofs.SameChanges.{mapped_at, mapped_more}
use Rattle.base_packed.proofs.comparing.same_edits.Goals as goal

pub returns-then-not-same_edit : goal.returns-then-not-same_edit
returns-then-not-same_edit c =
    let edits = c.args.edits.now in
    let others = c.args.others.now in
    let i = c.loop-i.i in
    let lt : i < length edits = omega (arith, c.loop-i-test.true) in
    let le : i < length others = omega (arith, c.loop-i-test.true, c.if-edits-others.false) in (
      λ t. absurd (false≢true t),
      λ same. absurd (false≢true (sym c.if-not-same_edit.true ∙ c.same_edit.ensures.1 (mapped_at (unpacked_edit c.args.kinds.now)
          (unpacked_edit c.args.other_kinds.now) edits others i (record { start = 0; kind = 0 }) (record { start = 0; kind = 0 }) lt le same))),
    )

pub loop-i-preserved : goal.loop-i-preserved
loop-i-preserved c =
    let edits = c.args.edits.now in
    let others = c.args.others.now in
    let i = c.loop-i.i in
    let lt : i < length edits = omega (arith, c.loop-i-test.true) in
    let le : i < length others = omega (arith, c.loop-i-test.true, c.if-edits-others.false) in
    mapped_more (unpacked_edit c.args.kinds.now) (unpacked_edit c.args.other_kinds.now) edits others i (record { start = 0; kind = 0 })
    (record { start = 0; kind = 0 }) lt le c.loop-i.invariant (c.same_edit.ensures.0 c.if-not-same_edit.false)
