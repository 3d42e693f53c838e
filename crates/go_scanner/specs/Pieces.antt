-- The pieces of each class, and the rules that a text may break.
use Rattle.std.specs.Prelude.{◌≡◌, ◌≢◌, ◌⊎◌, ℕ, ◌^◌, ◌<◌, ◌≤◌, Bool, true, false, ◌==◌, ◌||◌, List, [], ◌∷◌, Option, Some, None, length, take, drop}
use Rattle.std.specs.Prelude.{slice_index}
use Rattle.std.specs.Char.{is_digit}
use Rattle.bstr.specs.Utf8.{decoded}
use Rattle.go_scanner.specs.declared.piece.Class.{Class}
use Rattle.go_scanner.specs.declared.piece.Class.TheVariants.{ByteOrderMark, Blank, Newline, LineComment, GeneralComment, Name, Keyword, Integer}
use Rattle.go_scanner.specs.declared.piece.Class.TheVariants.{InterpretedString, RawString, Operator}
use Rattle.base_files.specs.declared.fault_kind.FaultKind.{FaultKind}
use Rattle.base_files.specs.declared.fault_kind.FaultKind.TheVariants.{Encoding, Number, String, Comment, Character}
use Rattle.go_scanner.specs.Characters.{continues_name}
use Rattle.go_scanner.specs.Words.{IsWord}
use Rattle.go_scanner.specs.Keywords.{keyword_spelling}
use Rattle.go_scanner.specs.Operators.{operator_spelling}
use Rattle.go_scanner.specs.Integers.{is_integer, integer_value}
use Rattle.go_scanner.specs.Strings.{IsString, IsRawString, IsBadString, IsOpenRawString}
use Rattle.go_scanner.specs.Trivia.{is_blank, IsLineComment, IsGeneralComment, IsOpenComment}

-- the bytes are a piece of the class; a byte order mark is none, as it is one at the start of a text only (`Cuts`)
abbrev pub IsPiece : Class → List ℕ → Type 0
IsPiece ByteOrderMark bytes = ⊥
IsPiece Blank bytes = (b : ℕ) × (is_blank b ≡ true) × (bytes ≡ b ∷ [])
IsPiece Newline bytes = bytes ≡ 10 ∷ []
IsPiece LineComment bytes = IsLineComment bytes
IsPiece GeneralComment bytes = IsGeneralComment bytes
IsPiece Name bytes = IsWord bytes × ((k : Rattle.go_scanner.specs.declared.keywords.Keyword.Keyword) → bytes ≢ keyword_spelling k)
IsPiece (Keyword k) bytes = bytes ≡ keyword_spelling k
IsPiece Integer bytes = is_integer bytes ≡ true
IsPiece InterpretedString bytes = IsString bytes
IsPiece RawString bytes = IsRawString bytes
IsPiece (Operator o) bytes = bytes ≡ operator_spelling o

-- the character may not follow a number: a letter, a decimal digit or a point
abbrev pub spoils_number : Option ℕ → Bool
spoils_number None = false
spoils_number (Some c) = c == 46 || continues_name c

-- the text begins with an integer literal that the next character spoils, as in `12ab`, or that is 2^63 or more
pub record IsBadInteger (text : List ℕ) : Type 0 where
  pub size : ℕ
  pub fits : size ≤ length text
  pub integer : is_integer (take size text) ≡ true
  pub longest : (m : ℕ) → size < m → m ≤ length text → is_integer (take m text) ≡ false
  pub bad : (spoils_number (decoded (drop size text)).char ≡ true) ⊎ (2 ^ 63 ≤ integer_value (take size text))

-- the text begins with a point and a digit
abbrev pub IsFraction : List ℕ → Type 0
IsFraction text = (slice_index text 0 ≡ 46) × (1 < length text) × (is_digit (slice_index text 1) 10 ≡ true)

-- a rule of this kind is broken at the start of the text; the fault is at offset `place`
abbrev pub Breaks : FaultKind → ℕ → List ℕ → Type 0
Breaks Encoding place text = ⊥
Breaks Number place text = (place ≡ 0) × (IsBadInteger text ⊎ IsFraction text)
Breaks String place text = IsBadString text place ⊎ ((place ≡ 0) × IsOpenRawString text)
Breaks Comment place text = (place ≡ 0) × IsOpenComment text
Breaks Character place text = (place ≡ 0) × (0 < length text) × (slice_index text 0 ≢ 34) × (slice_index text 0 ≢ 96)
    × ((class : Class) (m : ℕ) → m ≤ length text → IsPiece class (take m text) → ⊥)
Breaks _ place text = ⊥

-- the first n bytes of the text are a piece of the class, no longer prefix is a piece, and no rule is broken
pub record Stands (text : List ℕ) (class : Class) (n : ℕ) : Type 0 where
  pub fits : n ≤ length text
  pub some : 0 < n
  pub piece : IsPiece class (take n text)
  pub longest : (other : Class) (m : ℕ) → n < m → m ≤ length text → IsPiece other (take m text) → ⊥
  pub sound : (kind : FaultKind) (place : ℕ) → Breaks kind place text → ⊥

-- the first n bytes, of which there is one at least, satisfy P, and no longer prefix does
pub record IsLongest (P : List ℕ → Type 0) (text : List ℕ) (n : ℕ) : Type 0 where
  pub fits : n ≤ length text
  pub some : 0 < n
  pub piece : P (take n text)
  pub longest : (m : ℕ) → n < m → m ≤ length text → P (take m text) → ⊥
