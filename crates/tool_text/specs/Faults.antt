-- What is told of the faults of Go files.
use Rattle.std.specs.Prelude.{◌==◌, ◌||◌, ◌&&◌, ℕ, Bool, List, [], ◌∷◌, ◌++◌, codes, if◌then◌else◌, length, max, nat_eq, nat_lt, not, take}
use Rattle.std.specs.Char.{is_ascii_alphanumeric}
use Rattle.std.specs.List.{prefix_len, starts_with}
use Rattle.std.specs.Cmp.Lexicographic.{pointwise}
use Rattle.base_files.specs.FaultNames.{fault_word}
use Rattle.base_files.specs.declared.fault_kind.FaultKind.{FaultKind}
use Rattle.base_files.specs.declared.fault_kind.FaultKind.TheVariants as kind
use Rattle.tool_text.specs.Taken.{is_among}

-- Whether the byte may be in a name or a keyword: an ASCII letter or digit, `_`, or a byte of another character.
abbrev pub is_word_byte : ℕ → Bool
is_word_byte byte = is_ascii_alphanumeric byte || byte == 95 || not (nat_lt byte 128)

-- Whether the byte may be in an operator: one of `% & * + - . / : < = > ^ |`, or a comma.
abbrev pub is_sign_byte : ℕ → Bool
is_sign_byte byte =
    (not (nat_lt byte 37) && nat_lt byte 39) || (not (nat_lt byte 42) && nat_lt byte 48) || byte == 58 || (not (nat_lt byte 60) && nat_lt byte 63)
    || byte == 94 || byte == 124

-- The bytes of names and keywords with which the text begins.
abbrev pub first_word : List ℕ → List ℕ
first_word text = take (prefix_len is_word_byte text) text

-- The bytes of operators with which the text begins, or its first byte.
abbrev pub first_signs : List ℕ → List ℕ
first_signs text = take (max (prefix_len is_sign_byte text) 1) text

-- The word with which the text begins, or else its first operator or other sign.
abbrev pub shown_token : List ℕ → List ℕ
shown_token text = if length (first_word text) == 0 then first_signs text else first_word text

-- The keywords of Go that begin or join nothing that is supported.
abbrev pub other_keywords : List ℕ
other_keywords = codes "case chan const default defer fallthrough go goto interface map range select switch"

-- The names that Go declares before all packages and that are not supported.
abbrev pub other_names : List ℕ
other_names = codes "any byte cap clear close comparable complex complex64 complex128 copy delete error float32 float64 imag int8 int16 int32 int64 iota make max min new real recover rune uint uint8 uint16 uint32 uint64 uintptr"

-- Whether the word is one of the keywords that are not supported.
unfoldable pub is_other_keyword : List ℕ → Bool
is_other_keyword word = is_among word other_keywords

-- Whether the word is one of the predeclared names that are not supported.
unfoldable pub is_other_name : List ℕ → Bool
is_other_name word = is_among word other_names

-- A word or sign in quotes, and what is told of it.
abbrev pub quoted_words : (token words : List ℕ) → List ℕ
quoted_words token words = 96 ∷ (token ++ (codes "` " ++ words))

-- What is told of a word or sign with which no supported syntax goes on.
abbrev pub token_words : List ℕ → List ℕ
token_words token =
    if length token == 0
    then codes "the file ends too early"
    else (if pointwise ◌==◌ token (10 ∷ [])
    then codes "the line ends too early, or such a line is not supported"
    else (if is_other_keyword token
    then quoted_words token (codes "is not supported")
    else quoted_words token (codes "is wrong here, or not supported")))

-- What is told where a text has no supported syntax from here on.
abbrev pub syntax_words : List ℕ → List ℕ
syntax_words rest = token_words (shown_token rest)

-- What is told of a name that nothing declares.
abbrev pub undeclared_words : List ℕ → List ℕ
undeclared_words rest =
    if is_other_name (first_word rest)
    then quoted_words (first_word rest) (codes "is not supported")
    else quoted_words (first_word rest) (codes "is not declared")

-- What is told of a character that begins nothing supported.
abbrev pub character_words : List ℕ → List ℕ
character_words rest =
    if starts_with nat_eq rest (39 ∷ []) then codes "runes are not supported" else codes "this character is wrong here, or not supported"

-- What is told of a fault of a kind that says all.
abbrev pub kind_words : FaultKind → List ℕ
kind_words kind.Encoding = codes "this is not UTF-8"
kind_words kind.Number = codes "this number is wrong, or numbers like it are not supported"
kind_words kind.String = codes "this string does not end, or an escape in it is not supported"
kind_words kind.Comment = codes "this comment does not end"
kind_words kind.Character = codes "this character is wrong here, or not supported"
kind_words kind.Syntax = codes "this syntax is wrong, or not supported"
kind_words kind.Nesting = codes "this is nested deeper than is supported"
kind_words kind.Package = codes "the other files of the folder name another package"
kind_words kind.Missing = codes "the folder has no such package, and packages of other modules and of the standard library are not supported"
kind_words kind.Cycle = codes "this import leads back to its own package"
kind_words kind.Import = codes "the package that is imported has faults"
kind_words kind.Undeclared = codes "this is not declared"
kind_words kind.Unexported = codes "another package has to export this name"
kind_words kind.Repeated = codes "this name is declared already, or cannot be declared here"
kind_words kind.Unused = codes "this import is not used"
kind_words kind.NoNew = codes "no name is new left of this `:=`"
kind_words kind.Loop = codes "no `for` surrounds this"
kind_words kind.Recursive = codes "this type holds itself"
kind_words kind.«Type» = codes "the types do not fit here, or such an operand is not supported"

-- What is told of a fault where the text goes on with `rest`.
abbrev pub words_of_fault : FaultKind → List ℕ → List ℕ
words_of_fault kind.Syntax rest = syntax_words rest
words_of_fault kind.Undeclared rest = undeclared_words rest
words_of_fault kind.Character rest = character_words rest
words_of_fault other rest = kind_words other

-- What is told of a fault where the text goes on with `rest`, and behind it the word of its kind.
abbrev pub fault_words : FaultKind → List ℕ → List ℕ
fault_words kind rest = words_of_fault kind rest ++ (codes " (" ++ (fault_word kind ++ codes ")"))
