-- The answers to the goals of `parse::parse_del`.
use Rattle.std.proofs.Common.{◌∙◌, sym, decimal}
use Rattle.server_read.proofs.Words.{no_space, split_unique, decimal_word}
use Rattle.server_read.proofs.LineWords.{del_words}
use Rattle.server_read.proofs.parse.parse_del.Goals as goal

pub returns-in_err-basis : goal.returns-in_err-basis
returns-in_err-basis c = rw c.from_residual.ensures (del_words c.args.words.now (λ b w fits e.
    no_space c.args.words.now (decimal b) w c.in_err-basis.ensures e))

pub returns-in_err-parse_u64 : goal.returns-in_err-parse_u64
returns-in_err-parse_u64 c = rw c.from_residual-in_err-parse_u64.ensures (del_words c.args.words.now (λ b w fits e.
    let parts = split_unique c.in_ok-basis.basis.now c.in_ok-basis.path.now (decimal b) w c.in_ok-basis.ensures.1 (decimal_word b fits.0)
    (sym c.in_ok-basis.ensures.0 ∙ e) in
    c.in_err-parse_u64.ensures b fits.0 parts.0))

pub returns-in_err-parse_argument : goal.returns-in_err-parse_argument
returns-in_err-parse_argument c = rw c.from_residual-in_err-parse_argument.ensures (del_words c.args.words.now (λ b w fits e.
    let parts = split_unique c.in_ok-basis.basis.now c.in_ok-basis.path.now (decimal b) w c.in_ok-basis.ensures.1 (decimal_word b fits.0)
    (sym c.in_ok-basis.ensures.0 ∙ e) in
    c.in_err-parse_argument.ensures (rw parts.1 fits.1)))
