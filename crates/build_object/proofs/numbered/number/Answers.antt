-- The answers to the goals of `numbered::number`.
use Rattle.std.proofs.Common.{◌≡◌, ◌==◌, ◌≤◌, ◌+◌, ap, sym, ◌∙◌, take, length, get_or, arith}
use Rattle.std.proofs.lemmas.List.{length-take-le, take_more}
use Rattle.build_object.specs.Numbering.{slot_of, first_of}
use Rattle.build_object.proofs.Numbering.{slot_last}
use Rattle.build_object.proofs.numbered.number.Goals as goal

pub loop-i-preserved : goal.loop-i-preserved
loop-i-preserved c = λ q.
    let short : c.loop-i.i ≤ length c.args.places.now = omega arith in
    let taken = length-take-le c.loop-i.i c.args.places.now short in
    let size : c.loop-i.i ≡ 0 + length (take c.loop-i.i c.args.places.now) = omega arith in
    c.in_ok-note.ensures q
    ∙ (ap (λ o. first_of o (get_or c.args.places.now c.loop-i.i 0 == q) c.loop-i.i) (c.loop-i.invariant q)
    ∙ (ap (first_of (slot_of (take c.loop-i.i c.args.places.now) q) (get_or c.args.places.now c.loop-i.i 0 == q)) size
    ∙ (sym (slot_last 0 (take c.loop-i.i c.args.places.now) (get_or c.args.places.now c.loop-i.i 0) q)
    ∙ ap (λ ps. slot_of ps q) (sym (take_more c.args.places.now c.loop-i.i 0 c.loop-i-test.true)))))
