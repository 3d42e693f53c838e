-- The invariant of the scanner's loop, and its step by one piece.
use Rattle.std.proofs.Common.{◌≡◌, ℕ, ◌+◌, ◌≤◌, Bool, true, false, nat_eq, List, [], ◌∷◌, ◌++◌, length, drop, Option, Some, None, refl, ap, sym, ◌∙◌}
use Rattle.std.proofs.Common.{◌<◌, append_assoc, append-nil, arith, get_or, length-drop}
use Rattle.std.specs.List.{starts_with}
use Rattle.std.specs.Prelude.{slice_index}
use Rattle.std.proofs.lemmas.List.{drop_more}
use Rattle.go_scanner.specs.declared.piece.Class.{Class}
use Rattle.go_scanner.specs.declared.piece.Class.TheVariants.{Blank}
use Rattle.go_scanner.specs.declared.piece.Piece.{Piece}
use Rattle.go_scanner.specs.Cuts.{CutsUpTo, IsWellEncoded, mark_of, mark_len, byte_order_mark}
use Rattle.go_scanner.specs.CutText.{IsCutText}
use Rattle.go_scanner.specs.Pieces.{Stands}
use Rattle.go_scanner.specs.Trivia.{is_blank}
use Rattle.go_scanner.specs.Tokens.{tokens_of, tokens_due, semicolon, AddsTokensOf}
use Rattle.go_scanner.proofs.CutLemmas.{CutsUpTo-push}
use Rattle.go_scanner.proofs.TokenLemmas.{trivia_stays, end_due, end_plain}
use Rattle.go_scanner.proofs.FrontLemmas.{blank_stands}

-- the pieces cut the text up to an offset; the tokens found, with the semicolon that is due, are theirs, whatever follows
pub record Scanned (text : List ℕ) (pieces found : List Piece) (due : Option ℕ) (at : ℕ) : Type 0 where
  pub fits : at ≤ length text
  pub cut : CutsUpTo text pieces at
  pub so_far : (rest : List Piece) → found ++ tokens_due text due rest ≡ tokens_of text (pieces ++ rest)

mark_has_no_token : (b : Bool) (text : List ℕ) (rest : List Piece) → starts_with nat_eq text byte_order_mark ≡ b →
    tokens_of text rest ≡ tokens_of text (mark_of text ++ rest)
unfolding tokens_of
mark_has_no_token true text rest is = rw is refl
mark_has_no_token false text rest is = rw is refl

-- at the beginning
pub scanned_mark : (text : List ℕ) (pieces : List Piece) (at : ℕ) → pieces ≡ mark_of text → at ≡ mark_len text → at ≤ length text →
    Scanned text pieces [] None at
scanned_mark text pieces at pieces_are at_is fits = record {
  fits = fits;
  cut = ([], pieces_are ∙ sym (append-nil (mark_of text)), sym at_is);
  so_far = λ rest. mark_has_no_token _ text rest refl ∙ ap (λ (ps : List Piece). tokens_of text (ps ++ rest)) (sym pieces_are);
}

-- one more piece at the end
pub scanned_more : (text : List ℕ) (pieces found more : List Piece) (due next : Option ℕ) (at size : ℕ) (class : Class) (rest : List ℕ)
    → Scanned text pieces found due at → rest ≡ drop at text → Stands rest class size → at + size ≤ length text
    → AddsTokensOf text found due (record { class = class; span = record { start = at; end = at + size } }) more next
    → Scanned text (pieces ++ (record { class = class; span = record { start = at; end = at + size } }) ∷ []) more next (at + size)
scanned_more text pieces found more due next at size class rest before rest_is stands fits goes =
    let p : Piece = record { class = class; span = record { start = at; end = at + size } } in
    record {
      fits = fits;
      cut = CutsUpTo-push text pieces at class size rest before.cut rest_is stands;
      so_far = λ others. goes others ∙ before.so_far (p ∷ others) ∙ ap (tokens_of text) (sym (append_assoc pieces (p ∷ []) others));
    }

pub scanned_blank : (text : List ℕ) (pieces found : List Piece) (due : Option ℕ) (at : ℕ) → Scanned text pieces found due at → at < length text →
    is_blank (get_or text at 0) ≡ true →
    Scanned text (pieces ++ (record { class = Blank; span = record { start = at; end = at + 1 } }) ∷ []) found due (at + 1)
scanned_blank text pieces found due at before fits is =
    let first : slice_index (drop at text) 0 ≡ get_or text at 0 = ap (λ l. slice_index l 0) (drop_more text at 0 fits) in
    scanned_more text pieces found found due due at 1 Blank (drop at text) before refl
    (blank_stands (drop at text) (omega (arith, length-drop at text, fits)) (ap is_blank first ∙ is)) (omega (arith, fits))
    (trivia_stays text found due (record { class = Blank; span = record { start = at; end = at + 1 } }) refl refl)

whole : (text : List ℕ) (pieces found : List Piece) (due : Option ℕ) (at : ℕ) (tokens : List Piece) → IsWellEncoded text →
    Scanned text pieces found due at → at ≡ length text → found ++ tokens_due text due [] ≡ tokens → IsCutText text pieces tokens
whole text pieces found due at tokens encoded before all tokens_are = record {
  cut = record { encoded = encoded; cut = rw (← all) before.cut };
  tokens_are = sym tokens_are ∙ before.so_far [] ∙ ap (tokens_of text) (append-nil pieces);
}

-- at the end, with a semicolon due or none
pub whole_due : (text : List ℕ) (pieces found : List Piece) (end at : ℕ) → IsWellEncoded text → Scanned text pieces found (Some end) at → at ≡ length text →
    IsCutText text pieces (found ++ semicolon end ∷ [])
whole_due text pieces found end at encoded before all = whole text pieces found (Some end) at _ encoded before all (end_due text found end)

pub whole_plain : (text : List ℕ) (pieces found : List Piece) (at : ℕ) → IsWellEncoded text → Scanned text pieces found None at → at ≡ length text →
    IsCutText text pieces found
whole_plain text pieces found at encoded before all = whole text pieces found None at _ encoded before all (end_plain text found)
