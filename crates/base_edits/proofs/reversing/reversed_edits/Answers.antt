-- One edit further.
use Rattle.std.proofs.Common.{◌≡◌, ◌+◌, ◌-◌, ◌++◌, length, drop, sym, ap, subst, ◌∙◌, List, ℕ, arith}
use Rattle.base_edits.specs.Edits.{LieWithin}
use Rattle.base_edits.specs.Edits.{edited_from}
use Rattle.base_edits.specs.Inverse.{reversed, reversed_from}
use Rattle.base_edits.specs.declared.edit.Edit.{Edit}
use Rattle.base_edits.proofs.Steps.{next_edit, reversed_more, size_more}
use Rattle.base_edits.proofs.reversing.reversed_edits.Goals as goal

pub loop-edit-preserved : goal.loop-edit-preserved
loop-edit-preserved c =
    let edits = c.args.edits.now in
    let old = c.bytes-old.result.now in
    let e = c.edit-item.result in
    let i = c.loop-edit.edit-index in
    let start = c.loop-edit.new + (e.span.start - c.loop-edit.at) in
    let within : LieWithin (length old) edits = subst (λ (t : List ℕ). LieWithin (length t) edits) (sym c.bytes-old.ensures) c.requires.within in
    let next = next_edit edits i c.loop-edit.at (length old) e c.loop-edit-test.true c.edit-item.is c.loop-edit.invariant.order within in
    let r : Edit = record { span = record { start = start; end = start + c.len.result }; text = c.in_ok-text.text } in
    let rest = reversed_from e.span.end (start + c.len.result) (drop (i + 1) edits) old in
    let more = size_more edits i c.loop-edit.at old e next in
    let left = c.loop-edit.invariant.left in
    let len = c.len.ensures in
    record {
      made = ap (λ (xs : List Edit). xs ++ rest) c.in_ok-push.ensures.items
          ∙ reversed_more edits c.loop-edit.back.items (reversed edits old) i c.loop-edit.at c.loop-edit.new c.len.result old e r next
          c.loop-edit.invariant.made len
          (λ k. record { span = record { start = start; end = start + c.len.result }; text = c.in_ok-text.ensures k });
      order = next.order;
      inside = next.third;
      left = size_left c.loop-edit.new (e.span.start - c.loop-edit.at) c.len.result (length e.text)
          (length (edited_from e.span.end (drop (i + 1) edits) old)) (length (edited_from c.loop-edit.at (drop i edits) old)) c.len-size.result more left len;
    }
  where
    size_left : (new kept len text rest all size : ℕ) → all ≡ kept + (text + rest) → new + all ≡ size → len ≡ text → ((new + kept) + len) + rest ≡ size
    size_left new kept len text rest all size h1 h2 h3 = omega arith
