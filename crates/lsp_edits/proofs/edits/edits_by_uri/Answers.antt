-- The answers to the goals of `edits::edits_by_uri`.
use Rattle.serde_json.specs.Data.{no_members}
use Rattle.serde_json.specs.View.{members_view}
use Rattle.lsp_edits.proofs.Collecting.{members_next}
use Rattle.lsp_edits.proofs.edits.edits_by_uri.Goals as goal

pub loop-change-preserved : goal.loop-change-preserved
loop-change-preserved c =
    members_next c.args.telling c.args.files.now c.change-item.result c.args.changes.now c.loop-change.change-index no_members
    (members_view c.loop-change.edits.entries) (members_view c.put_edits.new.edits.entries) c.loop-change-test.true c.change-item.is
    c.in_ok-put_edits.ensures c.loop-change.invariant
