-- The answers to the goals of `moves::all_ends`.
use Rattle.std.proofs.Common.{subst}
use Rattle.base_edits.specs.Ends.{AreEnds}
use Rattle.base_edits.proofs.Ending.{more_files}
use Rattle.base_edits.proofs.moves.all_ends.Goals as goal

pub loop-change-preserved : goal.loop-change-preserved
loop-change-preserved c =
    more_files c.changed-changed.result.now c.loop-change.change-index c.loop-change.ends.items c.push.new.self.items c.in_ok-ends_of.field-0
    c.change-item.result c.loop-change-test.true c.change-item.is
    (subst (λ edits. AreEnds edits c.in_ok-ends_of.field-0.items) c.as_slice.ensures c.in_ok-ends_of.ensures) c.in_ok-push.ensures.items c.loop-change.invariant
