-- The entry at the receipt's index is compared, if the index is not too small.
use Rattle.std.proofs.Common.{◌≡◌, Some, None, ap, refl, sym, ◌∙◌, slice_get, arith}
use Rattle.std.proofs.lemmas.Bool.{false≢true}
use Rattle.std.proofs.lemmas.Option.{none-some, same_Some, slice_get_read, slice_get_past}
use Rattle.server_shared.proofs.receipt.is_in_journal.Goals as goal

pub returns-in-Some : goal.returns-in-Some
returns-in-Some c =
    let read = c.in-Some.ensures.lookup in
    let at : slice_get c.args.journal.now c.args.receipt.now.index ≡ Some c.in-Some.entry.now = slice_get_read _ _ _ _ refl read.3.0 read.1 in (
      λ e. (omega arith, at ∙ ap Some (c.same.ensures.0 e)),
      λ s. c.same.ensures.1 (same_Some c.in-Some.entry.now c.args.receipt.now.entry (sym at ∙ s.1)),
    )

pub returns-in-None : goal.returns-in-None
returns-in-None c =
    let read = c.in-None.ensures.lookup in
    let past : slice_get c.args.journal.now c.args.receipt.now.index ≡ None = slice_get_past _ _ read.3 in
    (λ e. absurd (false≢true e), λ s. absurd (none-some c.args.receipt.now.entry (sym past ∙ s.1)))
