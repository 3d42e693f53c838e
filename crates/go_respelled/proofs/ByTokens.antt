-- Edits of names and strings that are given by token indices.
use Rattle.std.proofs.Common.{ℕ, ◌≡◌, ◌⊎◌, List, Some, refl, inl, inr}
use Rattle.std.specs.Prelude.{slice_get}
use Rattle.std.specs.List.{All, Contains}
use Rattle.std.proofs.lemmas.List.Elements.{All-from_recursion, All-weaker}
use Rattle.base_lemmas.proofs.EachElement.{all_from_each}
use Rattle.go_scanner.specs.declared.piece.Class.{Class}
use Rattle.go_scanner.specs.declared.piece.Class.TheVariants.{InterpretedString, Name}
use Rattle.go_scanner.specs.declared.piece.Piece.{Piece}
use Rattle.go_scanner.specs.CutText.{CutText, tokens_in}
use Rattle.go_scanner.specs.Pieces.{IsPiece}
use Rattle.go_scanner.specs.Tokens.{semicolon}
use Rattle.base_edits.specs.Edits.{AreInOrder}
use Rattle.base_edits.specs.declared.edit.Edit.{Edit}
use Rattle.go_respelled.specs.PieceEdits.{ArePieceEdits, IsPieceEdit, MayStandFor, edited_piece}
use Rattle.go_respelled.specs.Renamings.{AreNameEdits, IsNameEdit, replaced_piece}
use Rattle.go_respelled.specs.Replaced.{ReplacesToken}
use Rattle.go_respelled.proofs.Spelled.{held_at}
use Rattle.go_respelled.proofs.Trees.{each_token}

-- the class of a name, or of an interpreted string
abbrev IsCopied : Class → Type 0
IsCopied c = (c ≡ Name) ⊎ (c ≡ InterpretedString)

no_semicolon : (place : ℕ) → IsCopied (semicolon place).class → ⊥
no_semicolon place (inl e) = cc
no_semicolon place (inr e) = cc

copied : (c : Class) (bytes : List ℕ) → MayStandFor c bytes → IsCopied c
copied c bytes (inl name) = inl name.0
copied c bytes (inr string) = inr string.0

-- a token of such a class is a piece
piece_of_token : (c : CutText) (n : ℕ) (t : Piece) → slice_get (tokens_in c) n ≡ Some t → IsCopied t.class → Contains c.pieces t
piece_of_token c n t at =
    let P : Piece → Type 0 = λ x. IsCopied x.class → Contains c.pieces x in
    held_at P (tokens_in c) n t (each_token P (λ place is. absurd (no_semicolon place is)) c.text c.pieces (all_from_each P c.pieces (λ x has is. has))) at

pub edits_of_tokens : (c : CutText) (edits : List Edit) → AreInOrder 0 edits →
    ((e : Edit) → Contains edits e → IsPiece Name e.text × ((token : ℕ) × (slice_get (tokens_in c) token ≡ Some (replaced_piece e)))) →
    AreNameEdits c.pieces edits
edits_of_tokens c edits order each = record {
  in_order = order;
  each = All-from_recursion (IsNameEdit c.pieces) edits (all_from_each (IsNameEdit c.pieces) edits (λ e has.
      let is = each e has in record { is_piece = piece_of_token c is.1.0 (replaced_piece e) is.1.1 (inl refl); is_name = is.0 }));
}

-- edits of tokens are edits of pieces
pub edits_of_pieces : (c : CutText) (edits : List Edit) → AreInOrder 0 edits → All (ReplacesToken c) edits → ArePieceEdits c.pieces edits
edits_of_pieces c edits order each = record {
  in_order = order;
  each = All-weaker (ReplacesToken c) (IsPieceEdit c.pieces) (λ e is. record {
    class = is.class;
    is_piece = piece_of_token c is.token (edited_piece is.class e) is.old (copied is.class e.text is.may);
    may = is.may;
  }) edits each;
}
