-- One edit further.
use Rattle.std.proofs.Common.{◌≡◌, ◌+◌, ◌++◌, length, drop, sym, ap, subst, ◌∙◌, List, ℕ}
use Rattle.std.specs.List.{slice_range}
use Rattle.base_edits.specs.Edits.{LieWithin, edited_from, edited_text}
use Rattle.base_edits.proofs.Steps.{next_edit, text_more}
use Rattle.base_edits.proofs.new_text.new_text.Goals as goal

pub loop-edit-preserved : goal.loop-edit-preserved
loop-edit-preserved c =
    let edits = c.args.edits.now in
    let old = c.bytes-old.result.now in
    let e = c.edit-item.result in
    let i = c.loop-edit.edit-index in
    let within : LieWithin (length old) edits = subst (λ (t : List ℕ). LieWithin (length t) edits) (sym c.bytes-old.ensures) c.requires.within in
    let next = next_edit edits i c.loop-edit.at (length old) e c.loop-edit-test.true c.edit-item.is c.loop-edit.invariant.order within in
    let kept = c.loop-edit.new.items ++ slice_range old c.loop-edit.at e.span.start in
    let items : c.extend_from_slice-in-loop-edit.new.self.items ≡ kept ++ e.text =
    c.in_ok-extend_from_slice-2.ensures.items ∙ ap (λ (xs : List ℕ). xs ++ c.bytes.result.now) c.in_ok-extend_from_slice.ensures.items ∙
    ap (λ (xs : List ℕ). kept ++ xs) c.bytes.ensures in
    record {
      made = ap (λ (xs : List ℕ). xs ++ edited_from e.span.end (drop (i + 1) edits) old) items
          ∙ text_more edits i c.loop-edit.at old c.loop-edit.new.items (edited_text edits old) e next c.loop-edit.invariant.made;
      order = next.order;
      inside = next.third;
    }
