-- A path in double quotes among the pieces of a text.
use Rattle.std.proofs.Common.{ℕ, ◌≡◌, ◌+◌, ◌-◌, List, [], ◌∷◌, ◌++◌, length, take, drop, refl, sym, ap, ◌∙◌, subst, arith, append_assoc, append-nil}
use Rattle.std.proofs.Common.{length-drop}
use Rattle.std.specs.Prelude.{◌↔◌}
use Rattle.std.proofs.lemmas.List.{take_at, drop_at}
use Rattle.base_files.specs.Path.{IsPath}
use Rattle.go_scanner.specs.declared.piece.Class.TheVariants.{InterpretedString}
use Rattle.go_scanner.specs.declared.piece.Piece.{Piece}
use Rattle.go_scanner.specs.CutText.{IsCutText}
use Rattle.go_scanner.specs.Cuts.{IsCut, CutsTo, CutsUpTo, bytes_of, mark_of, mark_len}
use Rattle.go_scanner.specs.Pieces.{Stands}
use Rattle.go_scanner.specs.Tokens.{semicolon, tokens_of, line_ends}
use Rattle.go_scanner.proofs.ContextLemmas.{stands_before}
use Rattle.go_scanner.proofs.CutLemmas.{CutsUpTo-push}
use Rattle.go_scanner.proofs.OneCutLemmas.{one_cut, one_piece}
use Rattle.go_respelled.specs.Literals.{literal_at, HasLiteralAt}
use Rattle.law_rename.proofs.Quoting.{quoted_literal, quoted_encoded}

pub quoted_stands : (least : ℕ) (path rest : List ℕ) → IsPath least path →
    Stands ((34 ∷ (path ++ 34 ∷ [])) ++ rest) InterpretedString (length (34 ∷ (path ++ 34 ∷ [])))
quoted_stands least path rest is = stands_before InterpretedString (34 ∷ (path ++ 34 ∷ [])) rest (quoted_literal least path is).piece tt

-- inside a text

pub quoted_goes_on : (least : ℕ) (front path rest : List ℕ) (before : List Piece) → IsPath least path →
    (let bytes = 34 ∷ (path ++ 34 ∷ []) in let text = front ++ (bytes ++ rest) in
    CutsUpTo text before (length front) → CutsUpTo text (before ++ literal_at (length front) bytes ∷ []) (length front + length bytes))
quoted_goes_on least front path rest before is cut =
    let bytes : List ℕ = 34 ∷ (path ++ 34 ∷ []) in
    CutsUpTo-push (front ++ (bytes ++ rest)) before (length front) InterpretedString (length bytes) (bytes ++ rest) cut
    (sym (drop_at front (bytes ++ rest) (length front) refl)) (quoted_stands least path rest is)

-- a cut begins with all pieces that lead from the beginning of its text to some place
cut_goes_on : (text : List ℕ) (from to : ℕ) (ps qs : List Piece) → CutsTo text from ps to → CutsTo text from qs (length text) →
    (after : List Piece) × (qs ≡ ps ++ after)
cut_goes_on text from to [] qs a b = (qs, refl)
cut_goes_on text from to (p ∷ ps) [] a b = absurd (omega (arith, b, a.2.some, a.2.fits, length-drop from text))
cut_goes_on text from to (p ∷ ps) (q ∷ qs) a b =
    let same = one_piece (drop from text) p.class q.class (p.span.end - from) (q.span.end - from) a.2 b.2 in
    let start : q.span.start ≡ p.span.start = b.0 ∙ sym a.0 in
    let end : q.span.end ≡ p.span.end = omega (arith, same.0, a.1, b.1) in
    let class : q.class ≡ p.class = sym same.1 in
    let pieces : q ≡ p = λ i. record { class = class i; span = record { start = start i; end = end i } } in
    let rest = cut_goes_on text p.span.end to ps qs a.3 (subst (λ (k : ℕ). CutsTo text k qs (length text)) end b.3) in
    (rest.0, λ i. pieces i ∷ rest.1 i)

pub cut_begins : (text : List ℕ) (ps qs : List Piece) (to : ℕ) → CutsUpTo text ps to → IsCut text qs → (after : List Piece) × (qs ≡ ps ++ after)
cut_begins text ps qs to cut whole =
    let rest = cut_goes_on text (mark_len text) to cut.0 whole.cut.0 cut.2 whole.cut.2 in
    (rest.0, whole.cut.1 ∙ ap (λ l. mark_of text ++ l) rest.1 ∙ sym (append_assoc (mark_of text) cut.0 rest.0) ∙ ap (λ l. l ++ rest.0) (sym cut.1))

quoted_bytes : (front bytes rest : List ℕ) → bytes_of (front ++ (bytes ++ rest)) (literal_at (length front) bytes) ≡ bytes
quoted_bytes front bytes rest =
    let size : length bytes ≡ length front + length bytes - length front = omega arith in
    ap (take (length front + length bytes - length front)) (drop_at front (bytes ++ rest) (length front) refl)
    ∙ take_at bytes rest (length front + length bytes - length front) size

pub quoted_in_cut : (least : ℕ) (front path rest : List ℕ) (before pieces : List Piece) → IsPath least path →
    (let bytes = 34 ∷ (path ++ 34 ∷ []) in let text = front ++ (bytes ++ rest) in
    CutsUpTo text before (length front) → IsCut text pieces → HasLiteralAt text pieces before (length front) bytes path)
quoted_in_cut least front path rest before pieces is cut whole =
    let bytes : List ℕ = 34 ∷ (path ++ 34 ∷ []) in
    let text : List ℕ = front ++ (bytes ++ rest) in
    let here : Piece = literal_at (length front) bytes in
    let found = cut_begins text (before ++ here ∷ []) pieces (length front + length bytes) (quoted_goes_on least front path rest before is cut) whole in
    record {
      after = found.0;
      pieces_are = found.1 ∙ append_assoc before (here ∷ []) found.0;
      bytes_are = quoted_bytes front bytes rest;
      literal = quoted_literal least path is;
    }

-- as a text of its own

pub quoted_cut : (least : ℕ) (path : List ℕ) → IsPath least path → IsCut (34 ∷ (path ++ 34 ∷ [])) (literal_at 0 (34 ∷ (path ++ 34 ∷ [])) ∷ [])
quoted_cut least path is =
    let bytes : List ℕ = 34 ∷ (path ++ 34 ∷ []) in
    let whole : Stands bytes InterpretedString (length bytes) = subst (λ l. Stands l InterpretedString (length bytes)) (append-nil bytes)
    (quoted_stands least path [] is) in
    let size : length bytes ≡ 0 + length bytes - 0 = omega arith in
    let end : 0 + length bytes ≡ length bytes = omega arith in
    record {
      encoded = quoted_encoded least path is;
      cut = (literal_at 0 bytes ∷ [], refl, (refl, omega arith, subst (λ (n : ℕ). Stands bytes InterpretedString n) size whole, end));
    }

pub quoted_cut_only : (least : ℕ) (path : List ℕ) → IsPath least path → (ps : List Piece) →
    IsCut (34 ∷ (path ++ 34 ∷ [])) ps ↔ (ps ≡ literal_at 0 (34 ∷ (path ++ 34 ∷ [])) ∷ [])
quoted_cut_only least path is ps = (
  λ cut. one_cut (34 ∷ (path ++ 34 ∷ [])) ps (literal_at 0 (34 ∷ (path ++ 34 ∷ [])) ∷ []) cut (quoted_cut least path is),
  λ same. subst (IsCut (34 ∷ (path ++ 34 ∷ []))) (sym same) (quoted_cut least path is),
)

pub quoted_tokens : (least : ℕ) (path : List ℕ) → IsPath least path →
    (let text = 34 ∷ (path ++ 34 ∷ []) in IsCutText text (literal_at 0 text ∷ []) (literal_at 0 text ∷ semicolon (length text) ∷ []))
unfolding tokens_of line_ends
quoted_tokens least path is =
    let text : List ℕ = 34 ∷ (path ++ 34 ∷ []) in
    let end : length text ≡ 0 + length text = omega arith in
    record { cut = quoted_cut least path is; tokens_are = ap (λ (k : ℕ). literal_at 0 text ∷ semicolon k ∷ []) end }
