-- By the paths that files keep.
use Rattle.std.proofs.Common.{◌≡◌, ◌↔◌, IsTrue, subst}
use Rattle.std.specs.List.{All}
use Rattle.base_edits.specs.EditSet.{FileChanges}
use Rattle.base_edits.specs.Fits.{HasSpans, AreFree}
use Rattle.base_edits.proofs.Fitting.{fits_from, free_from}
use Rattle.base_edits.proofs.edit_set.EditSet.fits.Goals as goal

pub returns-then-are_there : goal.returns-then-are_there
returns-then-are_there c =
    let s = c.args.self.now in
    let w = c.args.files.now in
    let set = c.changed-changed.ensures.set in
    let there : All (HasSpans w) s.changed = subst (All (HasSpans w)) c.changed-changed.ensures.changed (c.are_there.ensures.0 c.if-are_there.true) in
    let same : ◌≡◌ {A = FileChanges} (record { changed = c.changed-changed.result.now; added = c.added.result.now }) s =
    (λ i. record { changed = c.changed-changed.ensures.changed i; added = c.added.ensures i }) in
    let free : IsTrue c.are_free.result ↔ AreFree s w = subst (λ (t : FileChanges). IsTrue c.are_free.result ↔ AreFree t w) same c.are_free.ensures in
    (λ t. fits_from s w set there (free.0 t), λ fits. free.1 (free_from s w set there fits))
