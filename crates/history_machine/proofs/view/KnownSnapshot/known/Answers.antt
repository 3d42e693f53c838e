-- The invariant of `KnownSnapshot` says it.
use Rattle.std.proofs.Common.{sym, subst}
use Rattle.workspace_snapshot.specs.declared.snapshot.Snapshot.{Snapshot}
use Rattle.workspace_check.specs.Found.{KnowsVerdicts}
use Rattle.history_machine.proofs.view.KnownSnapshot.known.Goals as goal

pub returns : goal.returns
returns c =
    subst (λ (s : Snapshot). KnowsVerdicts s.files c.get.result.now) c.self.view_is
    (subst (KnowsVerdicts c.self.inside.snapshot.files) (sym c.get.ensures) c.self.invariant)
