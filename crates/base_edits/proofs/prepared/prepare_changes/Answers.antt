-- The made map holds the files after the changes, and the inverse leads back.
use Rattle.std.proofs.Common.{sym, subst}
use Rattle.base_edits.specs.EditSet.{FileChanges}
use Rattle.base_edits.specs.Prepared.{IsPrepared}
use Rattle.base_edits.proofs.Steps.{are_prepared, are_changes}
use Rattle.base_edits.proofs.prepared.prepare_changes.Goals as goal

pub new-inverse-requires : goal.new-inverse-requires
new-inverse-requires c =
    let s : FileChanges = record { changed = c.args.changed.now; added = c.args.added.now } in
    are_changes s c.args.files.now c.in_ok-making.making.back.items c.in_ok-making.making.lost.items c.requires.changes c.requires.fits
    c.in_ok-making.ensures.back c.in_ok-making.ensures.lost

pub returns : goal.returns
returns c =
    let s : FileChanges = record { changed = c.args.changed.now; added = c.args.added.now } in
    let making = c.in_ok-making.making in
    subst (λ (t : FileChanges). IsPrepared s c.args.files.now (record { files = making.files; inverse = t })) (sym c.new-inverse.ensures)
    (are_prepared s c.args.files.now making.files making.back.items making.lost.items c.requires.changes c.requires.fits c.in_ok-making.ensures.files
    c.in_ok-making.ensures.back c.in_ok-making.ensures.lost)
