-- The answers to the goals of `parse::parse_put`.
use Rattle.std.proofs.Common.{◌++◌, ◌∷◌, ◌∙◌, sym, decimal}
use Rattle.server_read.proofs.Words.{no_space, split_unique, decimal_word}
use Rattle.server_read.proofs.LineWords.{put_words}
use Rattle.server_read.proofs.parse.parse_put.Goals as goal

pub returns-in_err-basis : goal.returns-in_err-basis
returns-in_err-basis c = rw c.from_residual.ensures (put_words c.args.words.now (λ b w n fits e.
    no_space c.args.words.now (decimal b) (w ++ 32 ∷ decimal n) c.in_err-basis.ensures e))

pub returns-in_err-path : goal.returns-in_err-path
returns-in_err-path c = rw c.from_residual-in_err-path.ensures (put_words c.args.words.now (λ b w n fits e.
    let parts = split_unique c.in_ok-basis.basis.now c.in_ok-basis.rest.now (decimal b) (w ++ 32 ∷ decimal n) c.in_ok-basis.ensures.1
    (decimal_word b fits.0) (sym c.in_ok-basis.ensures.0 ∙ e) in
    no_space c.in_ok-basis.rest.now w (decimal n) c.in_err-path.ensures parts.1))

pub returns-in_err-parse_u64 : goal.returns-in_err-parse_u64
returns-in_err-parse_u64 c = rw c.from_residual-in_err-parse_u64.ensures (put_words c.args.words.now (λ b w n fits e.
    let parts = split_unique c.in_ok-basis.basis.now c.in_ok-basis.rest.now (decimal b) (w ++ 32 ∷ decimal n) c.in_ok-basis.ensures.1
    (decimal_word b fits.0) (sym c.in_ok-basis.ensures.0 ∙ e) in
    c.in_err-parse_u64.ensures b fits.0 parts.0))

pub returns-in_err-parse_argument : goal.returns-in_err-parse_argument
returns-in_err-parse_argument c = rw c.from_residual-in_err-parse_argument.ensures (put_words c.args.words.now (λ b w n fits e.
    let parts = split_unique c.in_ok-basis.basis.now c.in_ok-basis.rest.now (decimal b) (w ++ 32 ∷ decimal n) c.in_ok-basis.ensures.1
    (decimal_word b fits.0) (sym c.in_ok-basis.ensures.0 ∙ e) in
    let last = split_unique c.in_ok-path.path.now c.in_ok-path.size.now w (decimal n) c.in_ok-path.ensures.1 fits.1.1 (sym c.in_ok-path.ensures.0 ∙ parts.1) in
    c.in_err-parse_argument.ensures (rw last.0 fits.1)))

pub returns-in_err-parse_u32 : goal.returns-in_err-parse_u32
returns-in_err-parse_u32 c = rw c.from_residual-in_err-parse_u32.ensures (put_words c.args.words.now (λ b w n fits e.
    let parts = split_unique c.in_ok-basis.basis.now c.in_ok-basis.rest.now (decimal b) (w ++ 32 ∷ decimal n) c.in_ok-basis.ensures.1
    (decimal_word b fits.0) (sym c.in_ok-basis.ensures.0 ∙ e) in
    let last = split_unique c.in_ok-path.path.now c.in_ok-path.size.now w (decimal n) c.in_ok-path.ensures.1 fits.1.1 (sym c.in_ok-path.ensures.0 ∙ parts.1) in
    c.in_err-parse_u32.ensures n fits.2 last.1))
