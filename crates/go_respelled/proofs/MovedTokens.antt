-- The tokens of a text in which names and strings are replaced.
use Rattle.std.proofs.Common.{ℕ, ◌≡◌, List, [], ◌∷◌, ◌||◌, ◌&&◌, Bool, false, cond, refl, ap, ◌∙◌}
use Rattle.std.specs.Prelude.{map}
use Rattle.std.specs.List.{AllByRecursion, list_any}
use Rattle.std.proofs.Common.{eqb}
use Rattle.base_lemmas.proofs.EachElement.{all_from_each}
use Rattle.go_scanner.specs.declared.piece.Class.{Class}
use Rattle.go_scanner.specs.declared.piece.Class.TheVariants as class
use Rattle.go_scanner.specs.declared.piece.Piece.{Piece}
use Rattle.go_scanner.specs.Cuts.{IsCut}
use Rattle.go_scanner.specs.CutText.{CutText, tokens_in}
use Rattle.go_scanner.specs.Tokens.{ends_line, ends_line_by, ends_statement, has_line_end, is_trivia, line_ends, semicolon, tokens_of}
use Rattle.go_scanner.proofs.IntegerLemmas.{by_test}
use Rattle.base_edits.specs.Edits.{edited_text}
use Rattle.base_edits.specs.declared.edit.Edit.{Edit}
use Rattle.go_respelled.specs.PieceEdits.{ArePieceEdits}
use Rattle.go_respelled.specs.Renamings.{AreNameEdits, moved_piece, recut}
use Rattle.go_respelled.proofs.KeptBytes.{may_stand, other_bytes}
use Rattle.go_respelled.proofs.Many.{piece_edits}
use Rattle.go_respelled.proofs.OnePiece.{no_comment}

-- where lines end

line_by : (c : Class) (a b : Bool) → (c ≡ class.GeneralComment → a ≡ b) → ends_line_by c a ≡ ends_line_by c b
line_by class.GeneralComment a b same = same refl
line_by _ a b same = refl

module _ (edits : List Edit) (text new : List ℕ) where
  abbrev move : Piece → Piece
  move = moved_piece edits

  pub lines_same : (ps : List Piece) → AllByRecursion (λ p. ends_line new (move p) ≡ ends_line text p) ps → line_ends new (map move ps) ≡ line_ends text ps
  unfolding line_ends
  lines_same [] same = refl
  lines_same (p ∷ ps) same =
      let first : ends_line new (move p) ≡ ends_line text p = same.0 in
      let rest : line_ends new (map move ps) ≡ line_ends text ps = lines_same ps same.1 in
      λ i. cond (is_trivia p.class) (first i || rest i) false

  pub tokens_same : (ps : List Piece) → AllByRecursion (λ p. ends_line new (move p) ≡ ends_line text p) ps →
      tokens_of new (map move ps) ≡ map move (tokens_of text ps)
  unfolding tokens_of
  tokens_same [] same = refl
  tokens_same (p ∷ ps) same =
      let lines : line_ends new (map move ps) ≡ line_ends text ps = lines_same ps same.1 in
      let rest : tokens_of new (map move ps) ≡ map move (tokens_of text ps) = tokens_same ps same.1 in
      let after : List Piece → Bool → List Piece = λ ts ends. cond (ends_statement p.class && ends) (semicolon (move p).span.end ∷ ts) ts in
      let whole : tokens_of new (map move (p ∷ ps)) ≡ cond (is_trivia p.class) (map move (tokens_of text ps))
      (move p ∷ after (map move (tokens_of text ps)) (line_ends text ps)) = λ i. cond (is_trivia p.class) (rest i) (move p ∷ after (rest i) (lines i)) in
      whole ∙ by_test (is_trivia p.class)
      (λ trivia. rw trivia refl)
      (λ token. by_test (ends_statement p.class && line_ends text ps)
      (λ ends. rw (token, ends) refl)
      (λ goes. rw (token, goes) refl))

pub tokens_stay : (c : CutText) (edits : List Edit) → IsCut c.text c.pieces → ArePieceEdits c.pieces edits →
    tokens_in (recut edits c) ≡ map (moved_piece edits) (tokens_in c)
tokens_stay c edits cut are =
    let new : List ℕ = edited_text edits c.text in
    tokens_same edits c.text new c.pieces (all_from_each (λ p. ends_line new (moved_piece edits p) ≡ ends_line c.text p) c.pieces
    (λ p has. line_by p.class (has_line_end new (moved_piece edits p)) (has_line_end c.text p)
    (λ comment. ap (λ l. list_any (λ b. eqb b 10) l)
    (other_bytes c edits cut are p has (λ e at is. no_comment p.class e.text (may_stand c edits cut are e p has at is) comment)))))

pub tokens_moved : (c : CutText) (edits : List Edit) → IsCut c.text c.pieces → AreNameEdits c.pieces edits →
    tokens_in (recut edits c) ≡ map (moved_piece edits) (tokens_in c)
tokens_moved c edits cut are = tokens_stay c edits cut (piece_edits c.pieces edits are)
