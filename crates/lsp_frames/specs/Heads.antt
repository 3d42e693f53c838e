-- Headers of frames. `before` and `after` are the bytes that the reader has left, where they are known.
use Rattle.std.specs.Prelude.{ℕ, ◌≡◌, ◌≢◌, ◌<◌, ◌≤◌, List, [], ◌∷◌, length, Option, None, Some, IfSome, Result, Ok, Err}
use Rattle.server_read.specs.FirstLine.{after_line, first_line}
use Rattle.server_read.specs.Stops.{StopsInLine}
use Rattle.server_read.specs.declared.input.InputFault.{InputFault}
use Rattle.lsp_message.specs.Headers.{HeaderSays}
use Rattle.lsp_message.specs.declared.header.HeaderField.{HeaderField}
use Rattle.lsp_message.specs.declared.header.HeaderField.TheVariants.{End, Length, NoLength, Other}
use Rattle.lsp_frames.specs.declared.heads.Head.{Head}
use Rattle.lsp_frames.specs.declared.heads.Head.TheVariants as head

-- What a line of a header says. A line of more than 1024 bytes says nothing of the body.
abbrev pub LineSays : List ℕ → HeaderField → Type 0
LineSays line field = (length line ≤ 1024 → HeaderSays line field) × (1024 < length line → field ≡ Other)

-- The input begins with a line, which says this.
abbrev pub BeginsWithField : List ℕ → HeaderField → Type 0
BeginsWithField input field = (input ≢ []) × LineSays (first_line input) field

-- The input begins with lines that say these fields. None of them ends a header, and `rest` is behind them.
abbrev pub HasFields : (input : List ℕ) → List HeaderField → (rest : List ℕ) → Type 0
HasFields input [] rest = input ≡ rest
HasFields input (field ∷ fields) rest = BeginsWithField input field × (field ≢ End) × HasFields (after_line input) fields rest

-- The size by a field and by the fields before it.
abbrev pub size_behind : HeaderField → Option ℕ → Option ℕ
size_behind (Length size) before = Some size
size_behind NoLength before = None
size_behind End before = before
size_behind Other before = before

-- The size that fields say: that of the last one which is to give it. It is none where that field gives none, or no field is to.
abbrev pub size_said : Option ℕ → List HeaderField → Option ℕ
size_said before [] = before
size_said before (field ∷ fields) = size_said (size_behind field before) fields

-- The input begins with a header of these fields, and `rest` is behind it.
abbrev pub HasHeader : List ℕ → List HeaderField → List ℕ → Type 0
HasHeader input fields rest = (mid : List ℕ) × HasFields input fields mid × BeginsWithField mid End × (rest ≡ after_line mid)

-- The input begins with a header that says this size, and `rest` is behind it.
abbrev pub SaysHead : List ℕ → Option ℕ → List ℕ → Type 0
SaysHead input size rest = (fields : List HeaderField) × HasHeader input fields rest × (size ≡ size_said None fields)

-- The input is over before its header ends.
abbrev pub IsCutHead : List ℕ → Type 0
IsCutHead input = (fields : List HeaderField) × HasFields input fields []

-- Reading a line of a header.
abbrev pub ReadsField : (before after : Option (List ℕ)) → Result (Option HeaderField) InputFault → Type 0
ReadsField before after (Ok None) = IfSome before (λ input. (input ≡ []) × (after ≡ Some []))
ReadsField before after (Ok (Some field)) = IfSome before (λ input. BeginsWithField input field × (after ≡ Some (after_line input)))
ReadsField before after (Err fault) = StopsInLine before after

-- What a header with this size says.
abbrev pub head_with : Option ℕ → Head
head_with (Some size) = head.Length size
head_with None = head.NoLength

-- A header is read that says this size.
abbrev pub ReadsSaid : Option ℕ → (before after : Option (List ℕ)) → Type 0
ReadsSaid size before after = IfSome before (λ input. (rest : List ℕ) × SaysHead input size rest × (after ≡ Some rest))

-- A read that stops in a line of a header.
abbrev pub StopsInHead : (before after : Option (List ℕ)) → Type 0
StopsInHead before after =
    IfSome before (λ input. (fields : List HeaderField) × (mid : List ℕ) × HasFields input fields mid × StopsInLine (Some mid) after)

-- Reading a header.
abbrev pub ReadsHead : (before after : Option (List ℕ)) → Result Head InputFault → Type 0
ReadsHead before after (Ok head.Over) = IfSome before (λ input. IsCutHead input × (after ≡ Some []))
ReadsHead before after (Ok head.NoLength) = ReadsSaid None before after
ReadsHead before after (Ok (head.Length size)) = ReadsSaid (Some size) before after
ReadsHead before after (Err fault) = StopsInHead before after
