-- The answers to the goals of `changes::changed_by`.
use Rattle.lsp_documents.proofs.Following.{follows_at}
use Rattle.lsp_documents.proofs.changes.changed_by.Goals as goal

pub loop-change-preserved : goal.loop-change-preserved
loop-change-preserved c =
    follows_at c.args.encoding _ _ _ _ _ _ c.loop-change-test.true c.loop-change.invariant (rw c.bytes_of.ensures at c.in_ok-made-2.ensures)
