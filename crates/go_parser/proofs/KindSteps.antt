-- The tokens of a file with their kinds, one by one.
use Rattle.std.proofs.Common.{ℕ, ◌≡◌, ◌<◌, ◌≤◌, ◌+◌, ap, sym, ◌∙◌, refl, List, [], ◌∷◌, ◌++◌, length, drop, get_or, drop-cons, add-one, length-drop}
use Rattle.std.proofs.Common.{append_assoc, append-nil, arith}
use Rattle.std.proofs.lemmas.List.{nil_from_length}
use Rattle.go_scanner.specs.declared.piece.Piece.{Piece}
use Rattle.go_scanner.specs.Cuts.{bytes_of}
use Rattle.go_ast.specs.declared.syntax.Kind.{Kind}
use Rattle.go_ast.specs.declared.syntax.Token.{Token}
use Rattle.go_ast.specs.Kinds.{kinds_from, kind_of}

pub kinds_step : (n : ℕ) (text : List ℕ) (ps : List Piece) (d : Piece) → n < length ps →
    kinds_from n text (drop n ps) ≡ record { kind = kind_of (get_or ps n d).class (bytes_of text (get_or ps n d)); place = n } ∷ kinds_from (n + 1) text
    (drop (n + 1) ps)
unfolding kinds_from
kinds_step n text ps d h = ap (kinds_from n text) (drop-cons ps n d h) ∙
    ap (λ m. record { kind = kind_of (get_or ps n d).class (bytes_of text (get_or ps n d)); place = n } ∷ kinds_from (n + 1) text (drop m ps)) (sym (add-one n))

pub kinds_end : (n : ℕ) (text : List ℕ) → kinds_from n text [] ≡ []
unfolding kinds_from
kinds_end n text = refl

-- one more token
pub kinds_more : (n : ℕ) (text : List ℕ) (ps : List Piece) (d : Piece) (found : List Token) (all : List Token) (t : Token) → n < length ps →
    t ≡ record { kind = kind_of (get_or ps n d).class (bytes_of text (get_or ps n d)); place = n } →
    found ++ kinds_from n text (drop n ps) ≡ all → (found ++ (t ∷ [])) ++ kinds_from (n + 1) text (drop (n + 1) ps) ≡ all
kinds_more n text ps d found all t h e w =
    append_assoc found (t ∷ []) (kinds_from (n + 1) text (drop (n + 1) ps)) ∙
    (ap (λ x. found ++ (x ∷ kinds_from (n + 1) text (drop (n + 1) ps))) e ∙ (ap (λ x. found ++ x) (sym (kinds_step n text ps d h)) ∙ w))

-- after the last token
pub kinds_past : (n : ℕ) (text : List ℕ) (ps : List Piece) (found all : List Token) → length ps ≤ n → found ++ kinds_from n text (drop n ps) ≡ all → found ≡ all
kinds_past n text ps found all h w = sym (append-nil found) ∙
    (ap (λ x. found ++ x) (sym (ap (kinds_from n text) (nil_from_length (drop n ps) (let l = length-drop n ps in omega (arith, l, h))) ∙ kinds_end n text)) ∙ w)

abbrev pub token_of : Kind → ℕ → Token
token_of k n = record { kind = k; place = n }
