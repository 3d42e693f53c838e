-- The answers to the goals of `parse::parse_place`.
use Rattle.std.proofs.Common.{◌∙◌, sym, decimal}
use Rattle.server_read.proofs.Places.{mark_unique, decimal_no_mark, place_word_is}
use Rattle.server_read.proofs.parse.parse_place.Goals as goal

pub returns-in_err-path : goal.returns-in_err-path
returns-in_err-path c = rw c.from_residual.ensures (λ p n fits e.
    c.in_err-path.ensures p (decimal n) (e ∙ place_word_is p n))

pub returns-in_err-parse_part : goal.returns-in_err-parse_part
returns-in_err-parse_part c = rw c.from_residual-in_err-parse_part.ensures (λ p n fits e.
    let parts = mark_unique c.in_ok-path.path.now c.in_ok-path.offset.now p (decimal n) c.in_ok-path.ensures.1 (decimal_no_mark n fits.1)
    (sym c.in_ok-path.ensures.0 ∙ e ∙ place_word_is p n) in
    c.in_err-parse_part.ensures (rw parts.0 fits.0))

pub returns-in_err-parse_u32 : goal.returns-in_err-parse_u32
returns-in_err-parse_u32 c = rw c.from_residual-in_err-parse_u32.ensures (λ p n fits e.
    let parts = mark_unique c.in_ok-path.path.now c.in_ok-path.offset.now p (decimal n) c.in_ok-path.ensures.1 (decimal_no_mark n fits.1)
    (sym c.in_ok-path.ensures.0 ∙ e ∙ place_word_is p n) in
    c.in_err-parse_u32.ensures n fits.1 parts.1)
