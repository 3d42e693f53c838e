-- The answers to the goals of `parse::parse_rename`.
use Rattle.std.proofs.Common.{◌≡◌, ℕ, ◌^◌, ◌<◌, List, ◌++◌, ◌∷◌, ◌∙◌, sym, decimal}
use Rattle.server_read.specs.Words.{HasNoSpace}
use Rattle.server_read.specs.Lines.{place_word, FitsPlace}
use Rattle.server_read.proofs.Words.{no_space, split_unique, decimal_word}
use Rattle.server_read.proofs.Places.{place_word_no_space}
use Rattle.server_read.proofs.LineWords.{rename_words}
use Rattle.server_read.proofs.parse.parse_rename.Goals as goal

-- the first word ends at the first space
basis_then_rest : (words basis rest more : List ℕ) (b : ℕ) → words ≡ basis ++ 32 ∷ rest → HasNoSpace basis → b < 2 ^ 64 → words ≡ decimal b ++ 32 ∷ more
    → (basis ≡ decimal b) × (rest ≡ more)
basis_then_rest words basis rest more b e h fits f = split_unique basis rest (decimal b) more h (decimal_word b fits) (sym e ∙ f)

-- the second word ends at the next space
place_then_name : (rest place name path word : List ℕ) (offset : ℕ) → rest ≡ place ++ 32 ∷ name → HasNoSpace place → FitsPlace path offset
    → rest ≡ place_word path offset ++ 32 ∷ word → (place ≡ place_word path offset) × (name ≡ word)
place_then_name rest place name path word offset e h fits f =
    split_unique place name (place_word path offset) word h (place_word_no_space path offset fits.0 fits.1) (sym e ∙ f)

pub returns-in_err-basis : goal.returns-in_err-basis
returns-in_err-basis c = rw c.from_residual.ensures (rename_words c.args.words.now (λ b p o w fits e.
    no_space c.args.words.now (decimal b) (place_word p o ++ 32 ∷ w) c.in_err-basis.ensures e))

pub returns-in_err-place : goal.returns-in_err-place
returns-in_err-place c = rw c.from_residual-in_err-place.ensures (rename_words c.args.words.now (λ b p o w fits e.
    let parts = basis_then_rest c.args.words.now c.in_ok-basis.basis.now c.in_ok-basis.rest.now (place_word p o ++ 32 ∷ w) b
    c.in_ok-basis.ensures.0 c.in_ok-basis.ensures.1 fits.0 e in
    no_space c.in_ok-basis.rest.now (place_word p o) w c.in_err-place.ensures parts.1))

pub returns-in_err-path : goal.returns-in_err-path
returns-in_err-path c = rw c.from_residual-in_err-path.ensures (rename_words c.args.words.now (λ b p o w fits e.
    let parts = basis_then_rest c.args.words.now c.in_ok-basis.basis.now c.in_ok-basis.rest.now (place_word p o ++ 32 ∷ w) b
    c.in_ok-basis.ensures.0 c.in_ok-basis.ensures.1 fits.0 e in
    let last = place_then_name c.in_ok-basis.rest.now c.in_ok-place.place.now c.in_ok-place.name.now p w o
    c.in_ok-place.ensures.0 c.in_ok-place.ensures.1 fits.1 parts.1 in
    c.in_err-path.ensures p o fits.1 last.0))

pub returns-in_err-parse_u64 : goal.returns-in_err-parse_u64
returns-in_err-parse_u64 c = rw c.from_residual-in_err-parse_u64.ensures (rename_words c.args.words.now (λ b p o w fits e.
    let parts = basis_then_rest c.args.words.now c.in_ok-basis.basis.now c.in_ok-basis.rest.now (place_word p o ++ 32 ∷ w) b
    c.in_ok-basis.ensures.0 c.in_ok-basis.ensures.1 fits.0 e in
    c.in_err-parse_u64.ensures b fits.0 parts.0))

pub returns-in_err-parse_argument : goal.returns-in_err-parse_argument
returns-in_err-parse_argument c = rw c.from_residual-in_err-parse_argument.ensures (rename_words c.args.words.now (λ b p o w fits e.
    let parts = basis_then_rest c.args.words.now c.in_ok-basis.basis.now c.in_ok-basis.rest.now (place_word p o ++ 32 ∷ w) b
    c.in_ok-basis.ensures.0 c.in_ok-basis.ensures.1 fits.0 e in
    let last = place_then_name c.in_ok-basis.rest.now c.in_ok-place.place.now c.in_ok-place.name.now p w o
    c.in_ok-place.ensures.0 c.in_ok-place.ensures.1 fits.1 parts.1 in
    c.in_err-parse_argument.ensures (rw last.1 fits.2)))
