-- The set is prepared on the files of the whole base. Its graph is made from that of the files which the change of a part makes.
use Rattle.std.proofs.Common.{sym, subst}
use Rattle.base_files.specs.Workspace.{Workspace}
use Rattle.base_edits.specs.Fits.{Fits}
use Rattle.workspace_snapshot.specs.declared.change.Change.{Change}
use Rattle.workspace_snapshot.proofs.made_change.MadeChange.widened.Goals as goal

pub prepare-requires : goal.prepare-requires
prepare-requires c =
    subst (λ (w : Workspace). Fits c.into_parts-part.result.0.edits w) (sym c.files.ensures)
    (subst (λ (x : Change). Fits x.edits c.args.snapshot.now.files) (sym c.into_parts-part.ensures.same) c.requires.fits)
