-- Tokens, from left to right: a semicolon may be due after the last token so far.
use Rattle.std.proofs.Common.{◌≡◌, ℕ, List, [], ◌∷◌, ◌++◌, true, false, Option, Some, None, refl, ap, ◌∙◌, append_assoc, append-nil}
use Rattle.go_scanner.specs.declared.piece.Piece.{Piece}
use Rattle.go_scanner.specs.Tokens.{is_trivia, ends_statement, ends_line, line_ends, semicolon, tokens_of, tokens_due, AddsTokensOf}

pub token_ends : (text : List ℕ) (found : List Piece) (due : Option ℕ) (p : Piece) → is_trivia p.class ≡ false → ends_statement p.class ≡ true →
    AddsTokensOf text found due p (found ++ p ∷ []) (Some p.span.end)
unfolding line_ends tokens_of
token_ends text found None p token ends rest = append_assoc found (p ∷ []) (tokens_due text (Some p.span.end) rest) ∙
    ap (λ l. found ++ l) (rw (token, ends) refl)
token_ends text found (Some at) p token ends rest = append_assoc found (p ∷ []) (tokens_due text (Some p.span.end) rest) ∙
    ap (λ l. found ++ l) (rw (token, ends) refl)

pub token_stays : (text : List ℕ) (found : List Piece) (due : Option ℕ) (p : Piece) → is_trivia p.class ≡ false → ends_statement p.class ≡ false →
    AddsTokensOf text found due p (found ++ p ∷ []) None
unfolding line_ends tokens_of
token_stays text found None p token ends rest = append_assoc found (p ∷ []) (tokens_of text rest) ∙ ap (λ l. found ++ l) (rw (token, ends) refl)
token_stays text found (Some at) p token ends rest = append_assoc found (p ∷ []) (tokens_of text rest) ∙ ap (λ l. found ++ l) (rw (token, ends) refl)

pub trivia_stays : (text : List ℕ) (found : List Piece) (due : Option ℕ) (p : Piece) → is_trivia p.class ≡ true → ends_line text p ≡ false →
    AddsTokensOf text found due p found due
unfolding line_ends tokens_of
trivia_stays text found None p trivia none rest = ap (λ l. found ++ l) (rw trivia refl)
trivia_stays text found (Some at) p trivia none rest = ap (λ l. found ++ l) (rw (trivia, none) refl)

pub line_end_due : (text : List ℕ) (found : List Piece) (at : ℕ) (p : Piece) → is_trivia p.class ≡ true → ends_line text p ≡ true →
    AddsTokensOf text found (Some at) p (found ++ semicolon at ∷ []) None
unfolding line_ends tokens_of
line_end_due text found at p trivia ends rest = append_assoc found (semicolon at ∷ []) (tokens_of text rest) ∙ ap (λ l. found ++ l) (rw (trivia, ends) refl)

pub line_end_plain : (text : List ℕ) (found : List Piece) (p : Piece) → is_trivia p.class ≡ true → AddsTokensOf text found None p found None
unfolding line_ends tokens_of
line_end_plain text found p trivia rest = ap (λ l. found ++ l) (rw trivia refl)

-- at the end a semicolon that is due is put
pub end_due : (text : List ℕ) (found : List Piece) (at : ℕ) → found ++ tokens_due text (Some at) [] ≡ found ++ semicolon at ∷ []
unfolding line_ends tokens_of
end_due text found at = refl

pub end_plain : (text : List ℕ) (found : List Piece) → found ++ tokens_due text None [] ≡ found
unfolding line_ends tokens_of
end_plain text found = append-nil found
