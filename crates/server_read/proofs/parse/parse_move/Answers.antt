-- The answers to the goals of `parse::parse_move`.
use Rattle.std.proofs.Common.{◌++◌, ◌∷◌, ◌∙◌, sym, decimal}
use Rattle.server_read.proofs.Words.{no_space, split_unique, decimal_word}
use Rattle.server_read.proofs.LineWords.{move_words}
use Rattle.server_read.proofs.parse.parse_move.Goals as goal

pub returns-in_err-basis : goal.returns-in_err-basis
returns-in_err-basis c = rw c.from_residual.ensures (move_words c.args.words.now (λ b f t fits e.
    no_space c.args.words.now (decimal b) (f ++ 32 ∷ t) c.in_err-basis.ensures e))

pub returns-in_err-from : goal.returns-in_err-from
returns-in_err-from c = rw c.from_residual-in_err-from.ensures (move_words c.args.words.now (λ b f t fits e.
    let parts = split_unique c.in_ok-basis.basis.now c.in_ok-basis.rest.now (decimal b) (f ++ 32 ∷ t) c.in_ok-basis.ensures.1 (decimal_word b fits.0)
    (sym c.in_ok-basis.ensures.0 ∙ e) in
    no_space c.in_ok-basis.rest.now f t c.in_err-from.ensures parts.1))

pub returns-in_err-parse_u64 : goal.returns-in_err-parse_u64
returns-in_err-parse_u64 c = rw c.from_residual-in_err-parse_u64.ensures (move_words c.args.words.now (λ b f t fits e.
    let parts = split_unique c.in_ok-basis.basis.now c.in_ok-basis.rest.now (decimal b) (f ++ 32 ∷ t) c.in_ok-basis.ensures.1 (decimal_word b fits.0)
    (sym c.in_ok-basis.ensures.0 ∙ e) in
    c.in_err-parse_u64.ensures b fits.0 parts.0))

pub returns-in_err-parse_argument : goal.returns-in_err-parse_argument
returns-in_err-parse_argument c = rw c.from_residual-in_err-parse_argument.ensures (move_words c.args.words.now (λ b f t fits e.
    let parts = split_unique c.in_ok-basis.basis.now c.in_ok-basis.rest.now (decimal b) (f ++ 32 ∷ t) c.in_ok-basis.ensures.1 (decimal_word b fits.0)
    (sym c.in_ok-basis.ensures.0 ∙ e) in
    let last = split_unique c.in_ok-from.from.now c.in_ok-from.to.now f t c.in_ok-from.ensures.1 fits.1.1 (sym c.in_ok-from.ensures.0 ∙ parts.1) in
    c.in_err-parse_argument.ensures (rw last.0 fits.1)))

pub returns-in_err-parse_argument-2 : goal.returns-in_err-parse_argument-2
returns-in_err-parse_argument-2 c = rw c.from_residual-in_err-parse_argument-2.ensures (move_words c.args.words.now (λ b f t fits e.
    let parts = split_unique c.in_ok-basis.basis.now c.in_ok-basis.rest.now (decimal b) (f ++ 32 ∷ t) c.in_ok-basis.ensures.1 (decimal_word b fits.0)
    (sym c.in_ok-basis.ensures.0 ∙ e) in
    let last = split_unique c.in_ok-from.from.now c.in_ok-from.to.now f t c.in_ok-from.ensures.1 fits.1.1 (sym c.in_ok-from.ensures.0 ∙ parts.1) in
    c.in_err-parse_argument-2.ensures (rw last.1 fits.2)))
