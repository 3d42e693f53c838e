-- The answers to the goals of `between::same_by`.
use Rattle.std.proofs.Common.{◌∙◌, arith, sym}
use Rattle.std.specs.Cmp.Lexicographic.{bytes_decides}
use Rattle.go_respelled.proofs.Walked.{same_more}
use Rattle.go_respelled.proofs.between.same_by.Goals as goal

pub loop-n-preserved : goal.loop-n-preserved
loop-n-preserved c =
    let before = c.loop-n.invariant in
    let within = c.loop-n-test.true in
    record {
      within = omega arith;
      one = before.one;
      other = before.other;
      same = same_more c.args.one.now c.args.other.now c.loop-n.n c.args.step before.same ((bytes_decides _ _).0 (sym c.eq.ensures ∙ c.if-eq.true));
    }
