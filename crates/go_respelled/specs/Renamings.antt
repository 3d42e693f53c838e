-- Edits that each replace a name piece by a name, and the text and pieces after them.
use Rattle.std.specs.Prelude.{List, map}
use Rattle.std.specs.List.{All, Contains}
use Rattle.go_scanner.specs.declared.piece.Class.TheVariants.{Name}
use Rattle.go_scanner.specs.declared.piece.Piece.{Piece}
use Rattle.go_scanner.specs.CutText.{CutText}
use Rattle.go_scanner.specs.Pieces.{IsPiece}
use Rattle.base_edits.specs.Edits.{AreInOrder, edited_text}
use Rattle.base_edits.specs.Moved.{moved_offset}
use Rattle.base_edits.specs.declared.edit.Edit.{Edit}

-- The piece with its ends where the edits move them.
abbrev pub moved_piece : List Edit → Piece → Piece
moved_piece edits p = record { class = p.class; span = record { start = moved_offset edits p.span.start; end = moved_offset edits p.span.end } }

-- The text after the edits, with the pieces of the old text, whose ends the edits move.
abbrev pub recut : List Edit → CutText → CutText
recut edits c = record { text = edited_text edits c.text; pieces = map (moved_piece edits) c.pieces }

-- The name piece whose bytes an edit replaces.
abbrev pub replaced_piece : Edit → Piece
replaced_piece e = record { class = Name; span = e.span }

-- The edit replaces one of the pieces, which is a name, by another name, which is no keyword.
pub record IsNameEdit (pieces : List Piece) (e : Edit) : Type 0 where
  pub is_piece : Contains pieces (replaced_piece e)
  pub is_name : IsPiece Name e.text

-- The edits are in order, and each replaces a name piece by a name.
pub record AreNameEdits (pieces : List Piece) (edits : List Edit) : Type 0 where
  pub in_order : AreInOrder 0 edits
  pub each : All (IsNameEdit pieces) edits
