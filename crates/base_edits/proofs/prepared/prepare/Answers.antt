-- An edit set changes each file in one way.
use Rattle.std.proofs.Common.{◌≡◌, sym, subst}
use Rattle.std.specs.Prelude.{IfOk}
use Rattle.base_edits.specs.EditSet.{FileChanges}
use Rattle.base_edits.specs.Fits.{Fits}
use Rattle.base_edits.specs.Inverse.{AreChanges}
use Rattle.base_edits.specs.Prepared.{IsPrepared}
use Rattle.base_edits.proofs.Fitting.{set_changes}
use Rattle.base_edits.proofs.prepared.prepare.Goals as goal

pub prepare_changes-requires : goal.prepare_changes-requires
prepare_changes-requires c =
    let same : ◌≡◌ {A = FileChanges} (record { changed = c.changed.result.now; added = c.added.result.now }) c.args.set.now =
    (λ i. record { changed = c.changed.ensures.changed i; added = c.added.ensures i }) in
    record {
      changes = subst AreChanges (sym same) (set_changes c.args.set.now c.changed.ensures.set);
      fits = subst (λ (s : FileChanges). Fits s c.args.files.now) (sym same) c.requires;
    }

pub returns : goal.returns
returns c =
    let same : ◌≡◌ {A = FileChanges} (record { changed = c.changed.result.now; added = c.added.result.now }) c.args.set.now =
    (λ i. record { changed = c.changed.ensures.changed i; added = c.added.ensures i }) in
    subst (λ (s : FileChanges). IfOk c.prepare_changes.result (IsPrepared s c.args.files.now)) same c.prepare_changes.ensures
