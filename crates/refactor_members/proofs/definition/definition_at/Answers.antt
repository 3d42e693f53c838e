-- The answers to the goals of `definition::definition_at`.
use Rattle.std.proofs.Common.{sym, ◌∙◌, length, refl}
use Rattle.std.specs.Prelude.{Some}
use Rattle.std.proofs.lemmas.Option.{none-some, same_Some, slice_get_past, slice_get_read}
use Rattle.refactor_members.proofs.definition.definition_at.Goals as goal

pub returns-in-None : goal.returns-in-None
returns-in-None c = λ owners listed p are.
    absurd (none-some (Some owners) (sym (slice_get_past c.args.all.now c.args.number c.in-None.ensures.lookup.3) ∙ listed))

pub returns-in-Some : goal.returns-in-Some
returns-in-Some c = λ owners listed p are.
    let all = c.args.all.now in
    let found = c.in-Some.known.now in
    let at = slice_get_read all (length all) c.args.number found refl c.in-Some.ensures.lookup.3.0 c.in-Some.ensures.lookup.1 in
    c.definition_by.ensures owners (same_Some found (Some owners) (sym at ∙ listed)) p are
