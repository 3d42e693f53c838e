-- What a run notes that writes files.
use Rattle.std.specs.Prelude.{◌≡◌, ⊤, ℕ, List, [], ◌∷◌, ◌++◌, Result, Ok, Err, map, take}
use Rattle.std.specs.Borrow.{Bor}
use Rattle.tool_disk.specs.declared.fault.ToolFault.{ToolFault}
use Rattle.tool_disk.specs.declared.fault.ToolFault.TheVariants.{Memory, Told}
use Rattle.tool_disk.specs.declared.writing.FileOf.{FileOf}
use Rattle.tool_text.specs.Journal.{lines_text}

-- The paths of files.
abbrev pub paths_of : List FileOf → List (Bor (List ℕ))
paths_of = map (λ (file : FileOf). file.path)

-- The path and the text of each file.
abbrev pub file_parts : List FileOf → List (List ℕ × List ℕ)
file_parts = map (λ (file : FileOf). (file.path.now, file.text.now))

-- A run has noted the paths of the files whose new texts are in place, each on a line. Where it fails these are the first so many, and where
-- memory is wanting nothing is said.
abbrev pub NotesPlaced : (paths : List (Bor (List ℕ))) → (old new : List ℕ) → Result (Unit {0}) ToolFault → Type 0
NotesPlaced paths old new (Ok done) = new ≡ old ++ lines_text paths
NotesPlaced paths old new (Err Memory) = ⊤
NotesPlaced paths old new (Err (Told why)) = (number : ℕ) × (new ≡ old ++ lines_text (take number paths))

-- Nothing is noted of a file whose new text is not put in place. Where memory is wanting nothing is said.
abbrev pub NotesNothing : (old new : List ℕ) → ToolFault → Type 0
NotesNothing old new Memory = ⊤
NotesNothing old new (Told why) = new ≡ old

-- A run has noted the path of a file on a line where its new text is in place, and else nothing.
abbrev pub NotesOne : {X : Type 0} → (path old new : List ℕ) → Result X ToolFault → Type 0
NotesOne path old new (Ok done) = new ≡ old ++ (path ++ 10 ∷ [])
NotesOne path old new (Err fault) = NotesNothing old new fault
