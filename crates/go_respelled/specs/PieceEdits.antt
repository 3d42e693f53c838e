-- Edits that each replace a name by a name, or an interpreted string by such a string.
use Rattle.std.specs.Prelude.{◌≡◌, ◌⊎◌, ℕ, List}
use Rattle.std.specs.List.{All, Contains}
use Rattle.go_scanner.specs.declared.piece.Class.{Class}
use Rattle.go_scanner.specs.declared.piece.Class.TheVariants.{InterpretedString, Name}
use Rattle.go_scanner.specs.declared.piece.Piece.{Piece}
use Rattle.go_scanner.specs.Cuts.{IsWellEncoded}
use Rattle.go_scanner.specs.Pieces.{IsPiece}
use Rattle.base_edits.specs.Edits.{AreInOrder}
use Rattle.base_edits.specs.declared.edit.Edit.{Edit}

-- The bytes are one interpreted string, and are well encoded.
pub record IsEncodedString (bytes : List ℕ) : Type 0 where
  pub piece : IsPiece InterpretedString bytes
  pub encoded : IsWellEncoded bytes

-- The bytes may take the place of a piece of this class: of a name a name, and of an interpreted string such a string.
abbrev pub MayStandFor : Class → List ℕ → Type 0
MayStandFor class bytes = ((class ≡ Name) × IsPiece Name bytes) ⊎ ((class ≡ InterpretedString) × IsEncodedString bytes)

-- The piece of this class whose bytes an edit replaces.
abbrev pub edited_piece : Class → Edit → Piece
edited_piece class e = record { class = class; span = e.span }

-- The edit replaces one of the pieces by bytes that may take its place.
pub record IsPieceEdit (pieces : List Piece) (e : Edit) : Type 0 where
  pub class : Class
  pub is_piece : Contains pieces (edited_piece class e)
  pub may : MayStandFor class e.text

-- The edits are in order, and each replaces a piece by bytes that may take its place.
pub record ArePieceEdits (pieces : List Piece) (edits : List Edit) : Type 0 where
  pub in_order : AreInOrder 0 edits
  pub each : All (IsPieceEdit pieces) edits
