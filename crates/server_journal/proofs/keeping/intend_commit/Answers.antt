-- The commit asks for this change.
use Rattle.std.proofs.Common.{Some, sym, ap}
use Rattle.history_machine.specs.declared.event.Event.TheVariants.{Commit}
use Rattle.history_records.specs.declared.change.KeptChange.TheVariants as kept
use Rattle.workspace_snapshot.specs.declared.change.Change.{Change}
use Rattle.server_journal.proofs.KeptLaws.{of_event}
use Rattle.server_journal.proofs.keeping.intend_commit.Goals as goal

pub returns-clause-ok : goal.returns-clause-ok
returns-clause-ok g c =
    let asks = ap (λ (x : Change). Some (kept.Commit c.args.basis x.edits)) (sym c.get.ensures) in
    of_event _ _ c.intend_possible.result (Commit c.args.basis c.args.change.now) asks c.intend_possible.ensures.ok
