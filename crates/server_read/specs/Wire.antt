-- The messages of an input: its lines, with the bytes that some lines announce.
use Rattle.std.specs.Prelude.{◌≡◌, ◌≢◌, ℕ, ◌<◌, ◌≤◌, ◌⊎◌, List, [], ◌∷◌, ◌++◌, length, take, drop, Option, Some, None, codes}
use Rattle.std.specs.Str.{IsUtf8}
use Rattle.base_files.specs.Path.{IsPath}
use Rattle.base_files.specs.declared.limits.Limits.{Limits}
use Rattle.server_read.specs.declared.command.Command.{Command}
use Rattle.server_read.specs.declared.command.Command.TheVariants as command
use Rattle.server_read.specs.declared.command.StateCommand.TheVariants as state
use Rattle.server_read.specs.declared.message.Message.{Message}
use Rattle.server_read.specs.declared.message.Message.TheVariants.{Ask, Unknown, CutShort}
use Rattle.server_read.specs.FirstLine.{first_line, after_line}
use Rattle.server_read.specs.Lines.{IsCommandLine, size_after}

-- the line may be a command: it is within the limit, and UTF-8
pub record IsReadable (limits : Limits) (text : List ℕ) : Type 0 where
  pub short : length text ≤ limits.command_bytes
  pub utf8 : IsUtf8 text

-- the body of a put is kept: its path is a path of a file, and its size is within the limit of a file
abbrev pub IsBodyKept : Limits → List ℕ → ℕ → Type 0
IsBodyKept limits path size = IsPath 2 path × (size ≤ limits.file_bytes)

-- the body of a put is these bytes where it is kept, else none
abbrev pub KeepsBody : Limits → List ℕ → List ℕ → Option (List ℕ) → Type 0
KeepsBody limits path bytes (Some body) = IsBodyKept limits path (length bytes) × (body ≡ bytes)
KeepsBody limits path bytes None = ¬ (IsBodyKept limits path (length bytes))

-- the command of a line, with these bytes that the line announces, is this command
abbrev pub SaysCommand : Limits → Command → List ℕ → Command → Type 0
SaysCommand limits (command.OnState (state.Put basis path size unread)) bytes asked =
    (body : Option (List ℕ)) × KeepsBody limits path bytes body × (asked ≡ command.OnState (state.Put basis path size body))
SaysCommand limits said bytes asked = asked ≡ said

-- the text is no line of a session: neither `end` nor the line of a command
abbrev pub IsUnknown : List ℕ → Type 0
IsUnknown text = (text ≢ codes "end") × ((said : Command) → IsCommandLine text said → ⊥)

-- The line `text`, with the bytes `after` it, says this message. `rest` are the bytes that remain.
abbrev pub SaysLine : Limits → (text after : List ℕ) → Message → (rest : List ℕ) → Type 0
SaysLine limits text after (Ask asked) rest =
    (said : Command) × IsReadable limits text × IsCommandLine text said × (size_after said ≤ length after)
    × SaysCommand limits said (take (size_after said) after) asked × (rest ≡ drop (size_after said) after)
SaysLine limits text after CutShort rest =
    (said : Command) × IsReadable limits text × IsCommandLine text said × (length after < size_after said) × (rest ≡ [])
SaysLine limits text after Unknown rest =
    (IsReadable limits text → IsUnknown text) × (rest ≡ after)

-- the input begins with this message, and `rest` are the bytes after it
abbrev pub Says : Limits → List ℕ → Message → List ℕ → Type 0
Says limits input message rest = (input ≢ []) × SaysLine limits (first_line input) (after_line input) message rest

-- the input begins with these messages, in order, and `rest` are the bytes after them
abbrev pub Reads : Limits → List ℕ → List Message → List ℕ → Type 0
Reads limits input [] rest = input ≡ rest
Reads limits input (message ∷ messages) rest = (mid : List ℕ) × Says limits input message mid × Reads limits mid messages rest

-- the session ends here: the input is over, or its first line is `end`, and `rest` are the bytes after it
abbrev pub Ends : Limits → List ℕ → List ℕ → Type 0
Ends limits input rest = ((input ≡ []) × (rest ≡ []))
    ⊎ (IsReadable limits (first_line input) × (first_line input ≡ codes "end") × (rest ≡ after_line input))

-- these bytes are exactly one message, whatever follows them
abbrev pub IsWholeMessage : Limits → List ℕ → Message → Type 0
IsWholeMessage limits bytes message = (rest : List ℕ) → Says limits (bytes ++ rest) message rest

-- these bytes are exactly the end of a session, whatever follows them
abbrev pub IsWholeEnd : Limits → List ℕ → Type 0
IsWholeEnd limits bytes = (rest : List ℕ) → Ends limits (bytes ++ rest) rest

-- Of an input `part` is read, and `rest` is left. `part` has no whole message and no whole end in front, and doesn't reach beyond the
-- message or the end with which the input begins.
pub record StaysWithin (limits : Limits) (part rest : List ℕ) : Type 0 where
  pub message : (m : Message) (after : List ℕ) → Says limits (part ++ rest) m after → length after ≤ length rest
  pub end : (after : List ℕ) → Ends limits (part ++ rest) after → length after ≤ length rest
  pub no_message : (front back : List ℕ) (m : Message) → part ≡ front ++ back → IsWholeMessage limits front m → ⊥
  pub no_end : (front back : List ℕ) → part ≡ front ++ back → IsWholeEnd limits front → ⊥
