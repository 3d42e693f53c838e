-- The set is prepared on the files of the base, and what leads back from the files that it makes is kept.
use Rattle.std.proofs.Common.{◌≡◌, sym, subst, ◌∙◌}
use Rattle.base_files.specs.Workspace.{Workspace}
use Rattle.base_edits.specs.EditSet.{FileChanges}
use Rattle.base_edits.specs.Fits.{Fits}
use Rattle.base_edits.specs.Inverse.{AreChanges}
use Rattle.base_edits.proofs.Fitting.{set_changes}
use Rattle.workspace_snapshot.proofs.made_change.MadeChange.of.Goals as goal

pub prepare-requires : goal.prepare-requires
prepare-requires c = subst (λ (w : Workspace). Fits c.args.edits w) (sym c.files.ensures) c.requires

pub graph_with-requires-clause-changes : goal.graph_with-requires-clause-changes
graph_with-requires-clause-changes c =
    let lists : ◌≡◌ {A = FileChanges} (record { changed = c.changed.result.now; added = c.added.result.now }) c.args.edits =
    (λ i. record { changed = c.changed.ensures.changed i; added = c.added.ensures i }) in
    subst AreChanges (sym lists) (set_changes c.args.edits c.changed.ensures.set)
