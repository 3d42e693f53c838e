-- The inverse's changes are of each file in one way.
use Rattle.std.proofs.Common.{◌≡◌, sym, ap, subst, ◌∙◌}
use Rattle.base_files.specs.Workspace.{Workspace}
use Rattle.base_edits.specs.EditSet.{FileChanges, edited}
use Rattle.base_edits.specs.Fits.{Fits}
use Rattle.base_edits.specs.Inverse.{AreChanges}
use Rattle.workspace_snapshot.proofs.made_change.graph_after.Goals as goal

pub graph_with-requires : goal.graph_with-requires
graph_with-requires c =
    let lists : ◌≡◌ {A = FileChanges} (record { changed = c.changed.result.now; added = c.added.result.now }) c.args.way.now =
    (λ i. record { changed = c.changed.ensures.changed i; added = c.added.ensures i }) in
    record {
      changes = subst AreChanges (sym lists) c.changed.ensures.changes;
      fits = subst (λ (s : FileChanges). Fits s c.args.base.now) (sym lists) c.requires.fits;
      files = c.requires.files ∙ ap (λ (s : FileChanges). edited s c.args.base.now) (sym lists);
    }
