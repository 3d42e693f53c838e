-- One byte more of a text whose words get a new name.
use Rattle.std.proofs.Common.{◌≡◌, ◌∙◌, ℕ, ◌+◌, ◌<◌, ◌≤◌, true, false, if◌then◌else◌, List}
use Rattle.std.proofs.Common.{[], ◌∷◌, ◌++◌, length, drop, get_or, refl, sym, ap, append_assoc, arith}
use Rattle.std.specs.List.{between}
use Rattle.std.proofs.lemmas.List.{drop_all, drop_more}
use Rattle.std.proofs.lemmas.List.Edits.{between_more, between_none}
use Rattle.build_names.specs.Words.{is_break, so_far, word_with, words_with}

pub at_broken : (old new word : List ℕ) (b : ℕ) (rest : List ℕ) → is_break b ≡ true →
    words_with old new word (b ∷ rest) ≡ word_with old new word ++ b ∷ words_with old new [] rest
unfolding words_with
at_broken old new word b rest is =
    ap (λ t. if t then word_with old new word ++ b ∷ words_with old new [] rest else words_with old new (word ++ b ∷ []) rest) is

pub at_longer : (old new word : List ℕ) (b : ℕ) (rest : List ℕ) → is_break b ≡ false →
    words_with old new word (b ∷ rest) ≡ words_with old new (word ++ b ∷ []) rest
unfolding words_with
at_longer old new word b rest is =
    ap (λ t. if t then word_with old new word ++ b ∷ words_with old new [] rest else words_with old new (word ++ b ∷ []) rest) is

pub at_ended : (old new word : List ℕ) → words_with old new word [] ≡ word_with old new word
unfolding words_with
at_ended old new word = refl

next : (old new text word : List ℕ) (at : ℕ) → at < length text →
    words_with old new word (drop at text) ≡ words_with old new word (get_or text at 0 ∷ drop (at + 1) text)
next old new text word at within = ap (words_with old new word) (drop_more text at 0 within)

-- behind a byte that stands between words
pub at_break : (old new text : List ℕ) (start at : ℕ) (was mid now word : List ℕ) (b : ℕ) → at < length text → b ≡ get_or text at 0 → is_break b ≡ true →
    word ≡ between start at text → mid ≡ was ++ word_with old new word → now ≡ mid ++ b ∷ [] →
    so_far old new text now (at + 1) (at + 1) ≡ so_far old new text was start at
at_break old new text start at was mid now word b within byte is of_word added more =
    let rest = drop (at + 1) text in
    let w = word_with old new word in
    ap (λ l. now ++ words_with old new l rest) (between_none text (at + 1))
    ∙ ap (λ l. l ++ words_with old new [] rest) (more ∙ ap (λ l. l ++ b ∷ []) added)
    ∙ append_assoc (was ++ w) (b ∷ []) (words_with old new [] rest)
    ∙ append_assoc was w (b ∷ words_with old new [] rest)
    ∙ ap (λ l. was ++ l) (sym (at_broken old new word b rest is))
    ∙ ap (λ (x : ℕ). was ++ words_with old new word (x ∷ rest)) byte
    ∙ ap (λ l. was ++ l) (sym (next old new text word at within))
    ∙ ap (λ l. was ++ words_with old new l (drop at text)) of_word

-- behind a byte of a word
pub in_word : (old new text : List ℕ) (start at : ℕ) (was : List ℕ) (b : ℕ) → start ≤ at → at < length text → b ≡ get_or text at 0 → is_break b ≡ false →
    so_far old new text was start (at + 1) ≡ so_far old new text was start at
in_word old new text start at was b from within byte is =
    let word = between start at text in
    let rest = drop (at + 1) text in
    ap (λ l. was ++ words_with old new l rest) (between_more text start at 0 from within)
    ∙ ap (λ (x : ℕ). was ++ words_with old new (word ++ x ∷ []) rest) (sym byte)
    ∙ ap (λ l. was ++ l) (sym (at_longer old new word b rest is))
    ∙ ap (λ (x : ℕ). was ++ words_with old new word (x ∷ rest)) byte
    ∙ ap (λ l. was ++ l) (sym (next old new text word at within))

pub at_start : (old new text done : List ℕ) → done ≡ [] → so_far old new text done 0 0 ≡ words_with old new [] text
at_start old new text done none =
    ap (λ l. l ++ words_with old new (between 0 0 text) text) none ∙ ap (λ l. words_with old new l text) (between_none text 0)

pub at_end : (old new text : List ℕ) (start at : ℕ) (was now word all : List ℕ) → length text ≤ at → word ≡ between start (length text) text →
    now ≡ was ++ word_with old new word → start ≤ at → at ≤ length text → so_far old new text was start at ≡ all → now ≡ all
at_end old new text start at was now word all past of_word added from within before =
    let same : at ≡ length text = omega (arith, past, within) in
    added
    ∙ ap (λ l. was ++ word_with old new l) (of_word ∙ ap (λ (n : ℕ). between start n text) (sym same))
    ∙ ap (λ l. was ++ l) (sym (at_ended old new (between start at text)))
    ∙ ap (λ l. was ++ words_with old new (between start at text) l) (sym (drop_all at text past))
    ∙ before
