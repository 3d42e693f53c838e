-- One edit further.
use Rattle.std.proofs.Common.{[], ◌∷◌, ◌++◌, take, sym, ap, subst, ◌∙◌}
use Rattle.std.proofs.lemmas.List.{take_more}
use Rattle.base_edits.specs.declared.edit.Edit.{Edit}
use Rattle.base_packed.specs.Packing.{PacksEdits}
use Rattle.base_packed.proofs.Packs.{edits_both, edits_none}
use Rattle.base_packed.proofs.packing.add_edits.Goals as goal

pub loop-edit-init : goal.loop-edit-init
loop-edit-init c = edits_none c.args.kinds.now.items c.args.packed.now.items

pub loop-edit-preserved : goal.loop-edit-preserved
loop-edit-preserved c =
    let edits = c.args.edits.now in
    let i = c.loop-edit.edit-index in
    let e = c.edit-item.result in
    subst (PacksEdits c.args.kinds.now.items c.add_edit.new.kinds.items c.args.packed.now.items c.add_edit.new.packed.items)
    (sym (take_more edits i e c.loop-edit-test.true ∙ ap (λ (x : Edit). take i edits ++ x ∷ []) (sym c.edit-item.is)))
    (edits_both c.args.kinds.now.items c.loop-edit.kinds.items c.add_edit.new.kinds.items c.args.packed.now.items c.loop-edit.packed.items
    c.add_edit.new.packed.items (take i edits) (e ∷ []) c.loop-edit.invariant c.in_ok-add_edit.ensures)
