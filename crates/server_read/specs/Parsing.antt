-- Texts as the lines of commands, and their parts.
use Rattle.std.specs.Prelude.{◌≡◌, ◌≢◌, ℕ, ◌<◌, List, [], ◌∷◌, ◌++◌, Option, None, Some, decimal}
use Rattle.std.specs.Str.{IsUtf8}
use Rattle.std.specs.Borrow.{Bor}
use Rattle.server_read.specs.Words.{HasNoSpace, HasNoMark, IsArgument, spaced}
use Rattle.server_read.specs.Lines.{IsCommandLine, verb_of, args_of, place_word, FitsPlace, FitsLine}
use Rattle.server_read.specs.declared.command.Command.{Command}

-- the number below `limit` that the text is the decimal of, or none
abbrev pub ReadsNumber : ℕ → List ℕ → Option ℕ → Type 0
ReadsNumber limit text None = (n : ℕ) → n < limit → text ≢ decimal n
ReadsNumber limit text (Some n) = (text ≡ decimal n) × (n < limit)

-- the parts of the text before and after its first space; none without a space
abbrev pub SplitsWord : List ℕ → Option (Bor (List ℕ) × Bor (List ℕ)) → Type 0
SplitsWord text None = HasNoSpace text
SplitsWord text (Some parts) = (text ≡ parts.0.now ++ 32 ∷ parts.1.now) × HasNoSpace parts.0.now

-- the parts of the text before and after its last `:#`; none without `:#`
abbrev pub SplitsPlace : List ℕ → Option (Bor (List ℕ) × Bor (List ℕ)) → Type 0
SplitsPlace text None = HasNoMark text
SplitsPlace text (Some parts) = (text ≡ parts.0.now ++ 58 ∷ 35 ∷ parts.1.now) × HasNoMark parts.1.now

-- the text as the part of a word before an offset: none where it has a space
abbrev pub ReadsPart : List ℕ → Option (List ℕ) → Type 0
ReadsPart text None = ¬ (HasNoSpace text)
ReadsPart text (Some part) = (part ≡ text) × HasNoSpace text

-- the path and the offset of the place `path:#offset` that the text is, or none
abbrev pub ReadsPlace : List ℕ → Option (List ℕ × ℕ) → Type 0
ReadsPlace text None = (path : List ℕ) (offset : ℕ) → FitsPlace path offset → text ≢ place_word path offset
ReadsPlace text (Some place) = (text ≡ place_word place.0 place.1) × FitsPlace place.0 place.1

-- the text as a word: none where it is empty or has a space
abbrev pub ReadsArgument : List ℕ → Option (List ℕ) → Type 0
ReadsArgument text None = ¬ (IsArgument text)
ReadsArgument text (Some word) = (word ≡ text) × IsArgument text

-- the text is these words, with one space between; there is at least one
abbrev pub IsSpaced : List (List ℕ) → List ℕ → Type 0
IsSpaced [] text = ⊥
IsSpaced (first ∷ others) text = text ≡ spaced first others

-- the line of the command has this first word, and these words after it, with one space between
pub record HasWords (verb words : List ℕ) (command : Command) : Type 0 where
  pub first : verb_of command ≡ verb
  pub fits : FitsLine command
  pub others : IsSpaced (args_of command) words

-- the command with this first word and these words after it, or none
abbrev pub ParsesArgs : List ℕ → List ℕ → Option Command → Type 0
ParsesArgs verb words None = (command : Command) → HasWords verb words command → ⊥
ParsesArgs verb words (Some command) = HasWords verb words command

-- the command whose line this one word is, or none
abbrev pub ParsesBare : List ℕ → Option Command → Type 0
ParsesBare verb None = (command : Command) → args_of command ≡ [] → verb_of command ≢ verb
ParsesBare verb (Some command) = IsCommandLine verb command

-- the command whose line the text is, or none
abbrev pub ParsesLine : List ℕ → Option Command → Type 0
ParsesLine text None = (command : Command) → IsCommandLine text command → ⊥
ParsesLine text (Some command) = IsCommandLine text command

-- the command whose line the bytes are, or none where they are no command's line or not UTF-8
abbrev pub ReadsLineText : List ℕ → Option Command → Type 0
ReadsLineText text None = IsUtf8 text → (command : Command) → IsCommandLine text command → ⊥
ReadsLineText text (Some command) = IsUtf8 text × IsCommandLine text command
