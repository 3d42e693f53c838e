-- One path further, which comes again behind its place or not.
use Rattle.std.proofs.Common.{◌==◌, refl, sym, ◌∙◌}
use Rattle.std.proofs.lemmas.Bool.{false≢true}
use Rattle.std.specs.Cmp.Lexicographic.{pointwise}
use Rattle.history_records.proofs.Sets.{distinct_end, distinct_more, distinct_not}
use Rattle.history_records.proofs.edit_sets.are_distinct.Goals as goal

pub returns-then-is_among : goal.returns-then-is_among
returns-then-is_among c = (
  λ e. absurd (false≢true e),
  λ all. absurd (distinct_not (pointwise ◌==◌) c.args.paths.now c.loop-i.i c.index-paths-i.result c.loop-i-test.true c.index-paths-i.is
      (sym c.is_among.ensures ∙ c.if-is_among.true) c.loop-i.invariant all),
)

pub loop-i-preserved : goal.loop-i-preserved
loop-i-preserved c = distinct_more (pointwise ◌==◌) c.args.paths.now c.loop-i.i c.index-paths-i.result c.loop-i-test.true c.index-paths-i.is
    (sym c.is_among.ensures ∙ c.if-is_among.false) c.loop-i.invariant

pub returns : goal.returns
returns c = (λ _. distinct_end (pointwise ◌==◌) c.args.paths.now c.loop-i.i c.loop-i-test.false c.loop-i.invariant, λ _. refl)
