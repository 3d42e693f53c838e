-- The cut of a text into pieces, and the first fault of a text that has none.
use Rattle.std.specs.Prelude.{◌≡◌, ◌≢◌, ◌⊎◌, ℕ, ◌+◌, ◌-◌, ◌<◌, ◌≤◌, nat_eq, List, [], ◌∷◌, ◌++◌, length, take, drop, slice_index, EachIndex, if◌then◌else◌}
use Rattle.std.specs.List.{starts_with}
use Rattle.std.specs.Str.{IsUtf8}
use Rattle.go_scanner.specs.declared.piece.Class.TheVariants.{ByteOrderMark}
use Rattle.go_scanner.specs.declared.piece.Piece.{Piece}
use Rattle.go_scanner.specs.declared.refusal.TextFault.{TextFault}
use Rattle.base_files.specs.declared.fault_kind.FaultKind.TheVariants.{Encoding}
use Rattle.go_scanner.specs.Pieces.{Stands, Breaks}

-- the first n bytes are the longest prefix that is UTF-8
pub record IsValidLen (text : List ℕ) (n : ℕ) : Type 0 where
  pub fits : n ≤ length text
  pub front : IsUtf8 (take n text)
  pub longest : (m : ℕ) → n < m → m ≤ length text → IsUtf8 (take m text) → ⊥

-- the text is UTF-8 with no zero byte
abbrev pub IsWellEncoded : List ℕ → Type 0
IsWellEncoded text = IsUtf8 text × EachIndex text (λ k. slice_index text k ≢ 0)

-- the first n bytes are the longest prefix that is well encoded, and more bytes follow
pub record IsIllEncodedAt (text : List ℕ) (n : ℕ) : Type 0 where
  pub short : n < length text
  pub front : IsWellEncoded (take n text)
  pub longest : (m : ℕ) → n < m → m ≤ length text → IsWellEncoded (take m text) → ⊥

-- the bytes of U+FEFF, which at the start of a text are a piece by themselves
abbrev pub byte_order_mark : List ℕ
byte_order_mark = 0xEF ∷ 0xBB ∷ 0xBF ∷ []

-- the length of the byte order mark at the start of a text: 3 or 0
abbrev pub mark_len : List ℕ → ℕ
mark_len text = if starts_with nat_eq text byte_order_mark then 3 else 0

-- the piece of the byte order mark at the start of a text, if there is one
abbrev pub mark_of : List ℕ → List Piece
mark_of text = if starts_with nat_eq text byte_order_mark then record { class = ByteOrderMark; span = record { start = 0; end = 3 } } ∷ [] else []

-- the pieces cut a text from offset `from` to offset `to` without a gap, each at the start of the bytes that are left
abbrev pub CutsTo : List ℕ → ℕ → List Piece → ℕ → Type 0
CutsTo text from [] to = from ≡ to
CutsTo text from (p ∷ ps) to = (p.span.start ≡ from) × (from ≤ p.span.end) × Stands (drop from text) p.class (p.span.end - from) × CutsTo text p.span.end ps to

-- the pieces cut a text from its start to offset `to`, a byte order mark first
abbrev pub CutsUpTo : List ℕ → List Piece → ℕ → Type 0
CutsUpTo text ps to = (rest : List Piece) × (ps ≡ mark_of text ++ rest) × CutsTo text (mark_len text) rest to

-- the bytes of a piece in its text
abbrev pub bytes_of : List ℕ → Piece → List ℕ
bytes_of text p = take (p.span.end - p.span.start) (drop p.span.start text)

-- the pieces are the cut of a text
pub record IsCut (text : List ℕ) (ps : List Piece) : Type 0 where
  pub encoded : IsWellEncoded text
  pub cut : CutsUpTo text ps (length text)

-- `fault` is the first broken rule of a well-encoded text: `pieces` cut the text up to offset `to`, where no piece can follow
pub record IsFirstPieceFault (text : List ℕ) (fault : TextFault) : Type 0 where
  pub encoded : IsWellEncoded text
  pub pieces : List Piece
  pub to : ℕ
  pub place : ℕ
  pub cut : CutsUpTo text pieces to
  pub breaks : Breaks fault.kind place (drop to text)
  pub offset_is : fault.offset ≡ to + place

-- `fault` is the first fault of a text: it is ill encoded there, or a rule is broken after some pieces
abbrev pub IsFirstFault : List ℕ → TextFault → Type 0
IsFirstFault text fault = ((fault.kind ≡ Encoding) × IsIllEncodedAt text fault.offset) ⊎ IsFirstPieceFault text fault
