-- The answers to the goals of `moves::text_at`.
use Rattle.std.proofs.Common.{length, ap, sym, ◌∙◌}
use Rattle.std.specs.Prelude.{Some}
use Rattle.std.proofs.lemmas.Option.{slice_get-get_or, slice_get_past}
use Rattle.base_lemmas.proofs.Tests.{not_below}
use Rattle.base_edits.proofs.Called.{no_text, some_text, other_text}
use Rattle.base_edits.proofs.moves.text_at.Goals as goal

pub returns-in-None : goal.returns-in-None
returns-in-None c = λ ends order are last.
    no_text c.args.name.now c.args.edits.now ends c.args.offset c.args.number (slice_get_past c.args.edits.now c.args.number (not_below c.args.number
    (length c.args.edits.now) c.in-None.ensures.lookup.2)) order are last

pub returns-then-edit-offset : goal.returns-then-edit-offset
returns-then-edit-offset c = λ ends order are last.
    let edits = c.args.edits.now in
    let e = c.in-Some.edit.now in
    c.bytes.ensures ∙ some_text c.args.name.now edits ends c.args.offset c.args.number e
    (slice_get-get_or edits c.args.number e c.in-Some.ensures.lookup.3.0 ∙ ap Some (sym c.in-Some.ensures.lookup.1)) c.if-edit-offset.true order are last

pub returns-else-edit-offset : goal.returns-else-edit-offset
returns-else-edit-offset c = λ ends order are last.
    let edits = c.args.edits.now in
    let e = c.in-Some.edit.now in
    other_text c.args.name.now edits ends c.args.offset c.args.number e (slice_get-get_or edits c.args.number e c.in-Some.ensures.lookup.3.0
    ∙ ap Some (sym c.in-Some.ensures.lookup.1)) c.if-edit-offset.false order are last
