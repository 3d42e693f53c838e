-- Edits of a cut text that replace names by names and strings by strings, as the code finds and checks them.
use Rattle.std.specs.Prelude.{ℕ, ◌≡◌, ◌+◌, ◌-◌, ◌^◌, ◌<◌, ◌≤◌, List, ◌++◌, drop, get_or, length, map, take, Some, slice_get}
use Rattle.std.specs.List.{All, slice_range}
use Rattle.go_scanner.specs.declared.piece.Class.{Class}
use Rattle.go_scanner.specs.declared.piece.Piece.{Piece}
use Rattle.go_scanner.specs.CutText.{CutText, token_at, tokens_in}
use Rattle.go_scanner.specs.Spans.{FollowFrom}
use Rattle.go_scanner.specs.Tokens.{semicolon}
use Rattle.go_ast.specs.Kinds.{kind_of_name}
use Rattle.base_edits.specs.Edits.{AreInOrder, edited_text}
use Rattle.base_edits.specs.Moved.{moved_offset}
use Rattle.base_edits.specs.PassedEdits.{ArePast, PassedEdits}
use Rattle.base_edits.specs.declared.edit.Edit.{Edit}
use Rattle.go_respelled.specs.PieceEdits.{MayStandFor, edited_piece}
use Rattle.go_respelled.specs.Renamings.{moved_piece}
use Rattle.go_respelled.specs.declared.between.Difference.{Difference}
use Rattle.go_respelled.specs.declared.between.Difference.TheVariants.{Absent, Elsewhere, InToken}
use Rattle.go_respelled.specs.declared.between.TokenBehind.{TokenBehind}
use Rattle.go_respelled.specs.declared.moved.Cursor.{Cursor}
use Rattle.go_respelled.specs.declared.moved.Stretch.{Stretch}

-- The edit replaces a token by bytes that may take its place. Both are `_`, or neither is.
pub record ReplacesToken (c : CutText) (e : Edit) : Type 0 where
  pub class : Class
  pub may : MayStandFor class e.text
  pub token : ℕ
  pub old : slice_get (tokens_in c) token ≡ Some (edited_piece class e)
  pub same_kind : kind_of_name e.text ≡ kind_of_name (slice_range c.text e.span.start e.span.end)

-- The edits are in order, and each replaces a token by bytes that may take its place.
pub record AreTokenEdits (c : CutText) (edits : List Edit) : Type 0 where
  pub order : AreInOrder 0 edits
  pub tokens : All (ReplacesToken c) edits

-- The edits are in order, and make the new text of the old one.
pub record Make (old : List ℕ) (edits : List Edit) (new : List ℕ) : Type 0 where
  pub order : AreInOrder 0 edits
  pub made : new ≡ edited_text edits old

-- An edit lies at or behind an offset of the old text. The text begins with the bytes before it, and with its new bytes. `rest` follows.
pub record GoesOn (old : List ℕ) (at : ℕ) (e : Edit) (text rest : List ℕ) : Type 0 where
  pub behind : at ≤ e.span.start
  pub order : e.span.start ≤ e.span.end
  pub within : e.span.end ≤ length old
  pub is : text ≡ slice_range old at e.span.start ++ (e.text ++ rest)

-- A token begins at or behind an offset, and at or before another one. `same` is the number of bytes from the first offset to it.
pub record IsTokenBehind (tokens : List Piece) (at offset : ℕ) (t : TokenBehind) : Type 0 where
  pub is_token : t.number < length tokens
  pub place : (get_or tokens t.number (semicolon 0)).span.start ≡ at + t.same
  pub before : at + t.same ≤ offset

-- A token of the old text lies behind an offset. What is left of the new text begins with the bytes from the offset to the token.
pub record IsBehindSame (old : CutText) (at : ℕ) (left : List ℕ) (t : TokenBehind) : Type 0 where
  pub is_token : t.number < length (tokens_in old)
  pub place : (token_at old t.number).span.start ≡ at + t.same
  pub within : t.same ≤ length left
  pub alike : take t.same (drop at old.text) ≡ take t.same left

-- Where the old text from an offset on and what is left of the new one differ. Where they do not, these are the same bytes.
abbrev pub IsDifference : CutText → ℕ → List ℕ → Difference → Type 0
IsDifference old at left Absent = left ≡ drop at old.text
IsDifference old at left (InToken t) = IsBehindSame old at left t
IsDifference old at left Elsewhere = Unit {0}

-- The edit puts the first of some bytes for a token of the old text, whose place they may take.
pub record PutsToken (old : CutText) (number : ℕ) (bytes : List ℕ) (e : Edit) : Type 0 where
  pub span : e.span ≡ (token_at old number).span
  pub within : length e.text ≤ length bytes
  pub leads : e.text ≡ take (length e.text) bytes
  pub replaces : ReplacesToken old e

-- The edits that a cursor has passed.
abbrev pub passed : Cursor → PassedEdits
passed c = record { edits = c.edits; old = c.old; new = c.new }

-- The cursor is past just the edits that end at or before an offset.
pub record IsCursorAt (edits : List Edit) (offset : ℕ) (c : Cursor) : Type 0 where
  pub past : ArePast edits offset (passed c)
  pub moves : moved_offset edits offset ≡ c.new + (offset - c.old)

-- The cursor moves each offset from `last` on, and before `limit`, as the edits do.
abbrev pub MovesBefore : List Edit → ℕ → ℕ → Cursor → Type 0
MovesBefore edits last limit c = (offset : ℕ) → last ≤ offset → offset < limit → moved_offset edits offset ≡ c.new + (offset - c.old)

-- So does a cursor up to its limit.
abbrev pub MovesStretch : List Edit → Stretch → Type 0
MovesStretch edits at = (last : ℕ) → ArePast edits last (passed at.cursor) → MovesBefore edits last at.limit at.cursor

-- The token is the old one, with both ends where the cursor moves them.
abbrev pub IsMovedBy : Cursor → Piece → Piece → Type 0
IsMovedBy c t new = new ≡ record { class = t.class; span = record { start = c.new + (t.span.start - c.old); end = c.new + (t.span.end - c.old) } }

-- Both ends of the token move to offsets below 2^64, the start not behind the end.
abbrev pub FitsMoved : List Edit → Piece → Type 0
FitsMoved edits t = (moved_offset edits t.span.start ≤ moved_offset edits t.span.end) × (moved_offset edits t.span.end < 2 ^ 64)

-- The tokens `moved` are the first old ones, moved by the edits. The cursor is past the edits that end at or before the last of them.
pub record AreMoved (edits : List Edit) (tokens : List Piece) (c : Cursor) (moved : List Piece) : Type 0 where
  pub last : ℕ
  pub size : ℕ
  pub follow : FollowFrom last (drop (length moved) tokens) size
  pub reached : ArePast edits last (passed c)
  pub made : moved ++ map (moved_piece edits) (drop (length moved) tokens) ≡ map (moved_piece edits) tokens

-- The tokens lie in order.
abbrev pub AreFollowing : List Piece → Type 0
AreFollowing tokens = (size : ℕ) × FollowFrom 0 tokens size

-- The edits replace names and strings of the old text by such, and make the new text so.
pub record Respell (old : CutText) (edits : List Edit) (new : List ℕ) : Type 0 where
  pub make : Make old.text edits new
  pub tokens : All (ReplacesToken old) edits
