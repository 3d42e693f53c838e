-- What the journal of a run says, and paths on the disk.
use Rattle.std.specs.Prelude.{ℕ, ◌≡◌, ◌<◌, ◌==◌, ◌||◌, ◌↔◌, ◌⊎◌, Bool, List, [], ◌∷◌, ◌++◌, Option, None, Some, IsTrue, IsUtf8, length, nat_eq, slice_index_or}
use Rattle.std.specs.Prelude.{if◌then◌else◌}
use Rattle.std.specs.Borrow.{Bor}
use Rattle.std.specs.Char.{is_ascii_digit}
use Rattle.std.specs.List.{All, ends_with, flat_map}
use Rattle.tool_disk.specs.declared.writing.DiskRun.{DiskRun}
use Rattle.tool_disk.specs.declared.writing.FileOf.{FileOf}
use Rattle.tool_disk.specs.declared.writing.FolderWriting.{FolderWriting}
use Rattle.tool_text.specs.Journal.{bare_texts}
use Rattle.tool_text.specs.Parts.{HasNoByte, parts}

-- What stands between the path of a folder and a name in it: a slash, unless the path is empty or ends with one.
abbrev pub path_joint : List ℕ → List ℕ
path_joint path = if (length path == 0 || ends_with nat_eq path (47 ∷ [])) then [] else 47 ∷ []

-- The path of a name below a folder.
abbrev pub disk_path : (folder name : List ℕ) → List ℕ
disk_path folder name = folder ++ (path_joint folder ++ name)

-- What stands before the last slash of a path, as a folder: it is the root where nothing does.
abbrev pub folder_before_slash : List ℕ → List ℕ
folder_before_slash front = if length front == 0 then 47 ∷ [] else front

-- The path is split at its last slash. A path without a slash lies in the folder `.`.
abbrev pub SplitsDiskPath : (path folder name : List ℕ) → Type 0
SplitsDiskPath path folder name =
    ((front : List ℕ) × (path ≡ front ++ 47 ∷ name) × HasNoByte 47 name × (folder ≡ folder_before_slash front))
    ⊎ ((folder ≡ 46 ∷ []) × (name ≡ path) × HasNoByte 47 path)

-- The path lies in the folder: a slash is behind the folder's path.
abbrev pub LiesInFolder : (folder path : List ℕ) → Type 0
LiesInFolder folder path = (rest : List ℕ) × (path ≡ folder ++ 47 ∷ rest)

-- A digit or a hyphen.
abbrev pub is_mark_byte : ℕ → Bool
is_mark_byte byte = is_ascii_digit byte || byte == 45

-- It has digits and hyphens alone.
abbrev pub HasMarkBytes : List ℕ → Type 0
HasMarkBytes text = (number : ℕ) → number < length text → IsTrue (is_mark_byte (slice_index_or text number 0))

-- The mark of a run has digits and hyphens alone, and at least one. So it names no other folder.
pub record IsRunMark (text : List ℕ) : Type 0 where
  pub some : 0 < length text
  pub bytes : HasMarkBytes text

-- A run by its texts: the paths of the files that get new texts, the folder that moves, its new path, and the mark.
pub record RunTexts : Type 0 where
  pub paths : List (List ℕ)
  pub from : List ℕ
  pub to : List ℕ
  pub mark : List ℕ

abbrev pub texts_of_run : DiskRun → RunTexts
texts_of_run run = record { paths = bare_texts run.paths.items; from = run.from.now; to = run.to.now; mark = run.mark.now }

-- The lines of its journal.
abbrev pub run_lines : RunTexts → List (List ℕ)
run_lines run = run.paths ++ (run.from ∷ run.to ∷ run.mark ∷ [])

-- Its journal: each line has a line feed behind it.
abbrev pub journal_text : RunTexts → List ℕ
journal_text run = flat_map (λ (line : List ℕ). line ++ 10 ∷ []) (run_lines run)

-- The parts are those of the whole journal of this run: its lines, and nothing behind the last line feed.
pub record AreJournalParts (texts : List (List ℕ)) (run : RunTexts) : Type 0 where
  pub lines : texts ≡ run_lines run ++ [] ∷ []
  pub is_mark : IsRunMark run.mark

-- The run whose journal has these parts is found, or there is none.
abbrev pub FindsRunOf : List (List ℕ) → Option DiskRun → Type 0
FindsRunOf texts (Some found) = AreJournalParts texts (texts_of_run found)
FindsRunOf texts None = (run : RunTexts) → AreJournalParts texts run → ⊥

-- Each of these lines is UTF-8.
abbrev pub AreUtf8 : List (Bor (List ℕ)) → Type 0
AreUtf8 lines = All (λ (line : Bor (List ℕ)). IsUtf8 line.now) lines

-- The run is found whose journal a text is. None is found where the text is none, or a line of it is no UTF-8.
abbrev pub ReadsRun : List ℕ → Option DiskRun → Type 0
ReadsRun text (Some found) = AreJournalParts (parts 10 text) (texts_of_run found)
ReadsRun text None = (run : RunTexts) → AreJournalParts (parts 10 text) run → All IsUtf8 (run_lines run) → ⊥

-- Each path of these files can stand in a line.
abbrev pub HaveLinePaths : List FileOf → Type 0
HaveLinePaths files = All (λ (file : FileOf). HasNoByte 10 file.path.now) files

-- The paths of what a run is to write can stand in a journal.
pub record CanBeJournal (writing : FolderWriting) : Type 0 where
  pub files : HaveLinePaths writing.new.now
  pub from : HasNoByte 10 writing.from.now
  pub to : HasNoByte 10 writing.to.now

-- A journal is read as the run of which it was written, and as no other.
abbrev pub JournalsAreRead : Type 0
JournalsAreRead =
    (run : RunTexts) → All (HasNoByte 10) (run_lines run) → IsRunMark run.mark → (other : RunTexts) →
    AreJournalParts (parts 10 (journal_text run)) other ↔ (other ≡ run)
