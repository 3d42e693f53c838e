-- What was seen ends with the files of the state, which is the current one.
use Rattle.std.proofs.Common.{IfSome, List, ap, subst, sym}
use Rattle.base_files.specs.Workspace.{Workspace}
use Rattle.workspace_snapshot.specs.declared.snapshot.Snapshot.{Snapshot}
use Rattle.server_versions.specs.Growing.{IsLastVersion}
use Rattle.server_shared.proofs.locked.Locked.looked_ahead.Goals as goal

pub invariant_of-state : goal.invariant_of-state
invariant_of-state g c = record {
  ends = subst (λ (w : Workspace). IfSome c.show_files-seen.result (λ (v : List Workspace). IsLastVersion v w))
      (sym (ap (λ (s : Snapshot). s.files) c.in_ok-snapshot.ensures)) c.show_files-seen.ensures.shown;
}
