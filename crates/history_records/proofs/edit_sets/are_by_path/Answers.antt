-- One path further, which comes behind the one before it or not.
use Rattle.std.proofs.Common.{refl, sym, ◌∙◌}
use Rattle.std.proofs.lemmas.Bool.{false≢true}
use Rattle.history_records.proofs.Sets.{less_at, next_rises, rises_end, rises_stop}
use Rattle.history_records.proofs.edit_sets.are_by_path.Goals as goal

pub returns-then-not-is_before : goal.returns-then-not-is_before
returns-then-not-is_before c = let same = less_at c.args.changed.now c.loop-i.i c.index-changed-i.result c.index-changed-i-in-loop-i.result
    c.index-changed-i.is c.index-changed-i-in-loop-i.is in (
      λ e. absurd (false≢true e),
      λ s. absurd (rises_stop c.args.changed.now c.loop-i.i c.index-changed-i.result c.index-changed-i-in-loop-i.result c.loop-i.auto.i c.loop-i-test.true
          c.index-changed-i.is c.index-changed-i-in-loop-i.is
          (λ less. false≢true (sym c.if-not-is_before.true ∙ c.is_before.ensures.1 (sym same ∙ less))) s),
    )

pub loop-i-preserved : goal.loop-i-preserved
loop-i-preserved c =
    let same = less_at c.args.changed.now c.loop-i.i c.index-changed-i.result c.index-changed-i-in-loop-i.result c.index-changed-i.is
    c.index-changed-i-in-loop-i.is in
    next_rises c.args.changed.now c.loop-i.i c.index-changed-i.result c.index-changed-i-in-loop-i.result c.loop-i.auto.i c.loop-i-test.true
    c.index-changed-i.is c.index-changed-i-in-loop-i.is c.loop-i.invariant (same ∙ c.is_before.ensures.0 c.if-not-is_before.false)

pub returns : goal.returns
returns c = (λ _. rises_end c.args.changed.now c.loop-i.i c.loop-i-test.false c.loop-i.invariant, λ _. refl)
