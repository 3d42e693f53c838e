-- One change further.
use Rattle.std.proofs.Common.{[], ◌∷◌, ◌++◌, take, sym, ap, subst, ◌∙◌}
use Rattle.std.proofs.lemmas.List.{take_more}
use Rattle.base_edits.specs.Edits.{AreInOrder}
use Rattle.base_edits.specs.declared.change.FileChange.{FileChange}
use Rattle.base_packed.specs.Packing.{AddsChanges}
use Rattle.base_packed.specs.declared.packing.Packing.{Packing}
use Rattle.base_packed.proofs.Packs.{changes_both, forward}
use Rattle.base_packed.proofs.packing.pack.Goals as goal

pub add_change-requires : goal.add_change-requires
add_change-requires c =
    forward 0 c.change-item.result.edits
    (subst (λ (x : FileChange). AreInOrder 0 x.edits) (sym c.change-item.is)
    (c.requires c.loop-change.change-index c.change-item.result c.loop-change-test.true))

pub loop-change-preserved : goal.loop-change-preserved
loop-change-preserved c =
    let changed = c.args.changed.now in
    let i = c.loop-change.change-index in
    let x = c.change-item.result in
    let first : Packing = record { files = c.in_ok-files.files; edits = c.new.result; kinds = c.new-2.result } in
    subst (AddsChanges first c.add_change.new.packing)
    (sym (take_more changed i x c.loop-change-test.true ∙ ap (λ (y : FileChange). take i changed ++ y ∷ []) (sym c.change-item.is)))
    (changes_both first c.loop-change.packing c.add_change.new.packing (take i changed) (x ∷ []) c.loop-change.invariant c.in_ok-add_change.ensures)
