-- The answers to the goals of `moves::moved_past`.
use Rattle.std.proofs.Common.{get_or, subst}
use Rattle.std.specs.Prelude.{◌<◌, ◌^◌, OkIff}
use Rattle.std.proofs.lemmas.Option.{slice_get-get_or}
use Rattle.base_edits.specs.declared.moves.End.{End}
use Rattle.base_edits.proofs.Ending.{moved_last}
use Rattle.base_edits.proofs.moves.moved_past.Goals as goal

pub returns : goal.returns
returns c =
    let ends = c.args.ends.now in
    let offset = c.args.offset in
    let n = c.last_end-number.result in
    let none : End = record { old = 0; new = 0 } in
    let end : End = get_or ends n none in
    λ edits are.
    subst (λ m. OkIff c.moved_by.result (m < 2 ^ 64) m)
    (moved_last edits ends offset n end are c.last_end-number.ensures (slice_get-get_or ends n none c.last_end-number.ensures.within)) c.moved_by.ensures
