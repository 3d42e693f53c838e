-- The lines of commands: each is its words with one space between. A later command is a case of each function here but `size_after`.
use Rattle.std.specs.Prelude.{◌≡◌, ℕ, ◌^◌, ◌<◌, List, [], ◌∷◌, None, codes, decimal, ⊤}
use Rattle.base_files.specs.PlaceText.{place_text}
use Rattle.server_read.specs.Words.{HasNoSpace, IsArgument, spaced}
use Rattle.server_read.specs.declared.command.Command.{Command}
use Rattle.server_read.specs.declared.command.Command.TheVariants.{OnState, Wait, Status, Log}
use Rattle.server_read.specs.declared.command.StateCommand.TheVariants.{Look, Put, Del, Rename, Move, Undo, Redo, Cat, Uses, Faults, Object, Objects, Work}
use Rattle.server_read.specs.declared.command.StateCommand.TheVariants as state

-- the first word of a command's line
abbrev pub verb_of : Command → List ℕ
verb_of (OnState Look) = codes "look"
verb_of (OnState (Put basis path size body)) = codes "put"
verb_of (OnState (Del basis path)) = codes "del"
verb_of (OnState (Rename basis path offset name)) = codes "rename"
verb_of (OnState (Move basis from to)) = codes "move"
verb_of (OnState (Undo basis)) = codes "undo"
verb_of (OnState (Redo basis)) = codes "redo"
verb_of (OnState (Cat path)) = codes "cat"
verb_of (OnState (Uses path offset)) = codes "uses"
verb_of (OnState state.List) = codes "list"
verb_of (OnState Faults) = codes "faults"
verb_of (OnState (Object path)) = codes "object"
verb_of (OnState (Objects basis)) = codes "objects"
verb_of (OnState Work) = codes "work"
verb_of Wait = codes "wait"
verb_of Status = codes "status"
verb_of (Log number) = codes "log"

-- A place as a word: `path:#offset`. An offset has digits alone, so the last `:#` of the word is between path and offset.
abbrev pub place_word : List ℕ → ℕ → List ℕ
place_word path offset = place_text (record { path = path; offset = offset })

-- the words after the first; numbers are decimal, without leading zeros
abbrev pub args_of : Command → List (List ℕ)
args_of (OnState Look) = []
args_of (OnState (Put basis path size body)) = decimal basis ∷ path ∷ decimal size ∷ []
args_of (OnState (Del basis path)) = decimal basis ∷ path ∷ []
args_of (OnState (Rename basis path offset name)) = decimal basis ∷ place_word path offset ∷ name ∷ []
args_of (OnState (Move basis from to)) = decimal basis ∷ from ∷ to ∷ []
args_of (OnState (Undo basis)) = decimal basis ∷ []
args_of (OnState (Redo basis)) = decimal basis ∷ []
args_of (OnState (Cat path)) = path ∷ []
args_of (OnState (Uses path offset)) = place_word path offset ∷ []
args_of (OnState state.List) = []
args_of (OnState Faults) = []
args_of (OnState (Object path)) = path ∷ []
args_of (OnState (Objects basis)) = decimal basis ∷ []
args_of (OnState Work) = []
args_of Wait = []
args_of Status = []
args_of (Log number) = decimal number ∷ []

-- the path has no space, and may be empty; the offset is below 2^32
abbrev pub FitsPlace : List ℕ → ℕ → Type 0
FitsPlace path offset = HasNoSpace path × (offset < 2 ^ 32)

-- the command's numbers are within their ranges, its other arguments are words, and no body is read yet
abbrev pub FitsLine : Command → Type 0
FitsLine (OnState Look) = ⊤
FitsLine (OnState (Put basis path size body)) = (basis < 2 ^ 64) × IsArgument path × (size < 2 ^ 32) × (body ≡ None)
FitsLine (OnState (Del basis path)) = (basis < 2 ^ 64) × IsArgument path
FitsLine (OnState (Rename basis path offset name)) = (basis < 2 ^ 64) × FitsPlace path offset × IsArgument name
FitsLine (OnState (Move basis from to)) = (basis < 2 ^ 64) × IsArgument from × IsArgument to
FitsLine (OnState (Undo basis)) = basis < 2 ^ 64
FitsLine (OnState (Redo basis)) = basis < 2 ^ 64
FitsLine (OnState (Cat path)) = IsArgument path
FitsLine (OnState (Uses path offset)) = FitsPlace path offset
FitsLine (OnState state.List) = ⊤
FitsLine (OnState Faults) = ⊤
FitsLine (OnState (Object path)) = IsArgument path
FitsLine (OnState (Objects basis)) = basis < 2 ^ 64
FitsLine (OnState Work) = ⊤
FitsLine Wait = ⊤
FitsLine Status = ⊤
FitsLine (Log number) = number < 2 ^ 64

-- how many bytes the command's line announces
abbrev pub size_after : Command → ℕ
size_after (OnState (Put basis path size body)) = size
size_after command = 0

-- the text is the line of this command
pub record IsCommandLine (text : List ℕ) (command : Command) : Type 0 where
  pub spelled : text ≡ spaced (verb_of command) (args_of command)
  pub fits : FitsLine command
