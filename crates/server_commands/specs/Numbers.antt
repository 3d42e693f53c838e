-- What a server tells of itself in numbers.
use Rattle.std.specs.Prelude.{◌≡◌, ◌+◌, ◌-◌, ℕ, Result, Ok, Err, length, sum_by}
use Rattle.std.specs.Io.Iter.{u64_saturate}
use Rattle.base_edits.specs.EditSet.{FileChanges}
use Rattle.base_edits.specs.Moved.{added_by}
use Rattle.base_files.specs.declared.refusal.Refusal.{Refusal}
use Rattle.history_machine.specs.Machine.{Machine, content, snapshot_of}
use Rattle.server_commands.specs.declared.numbers.BookNumbers.{BookNumbers}
use Rattle.server_commands.specs.declared.numbers.ServerNumbers.{ServerNumbers}
use Rattle.workspace_snapshot.specs.Fits.{total_bytes}
use Rattle.workspace_snapshot.specs.declared.snapshot.Snapshot.{Snapshot}

-- The numbers are those of a book whose current state this is. Its chapter begins with the entry `chapter`, and has so many entries. The bytes are
-- those of the texts of all files, within 64 bits.
pub record AreNumbersOf (snapshot : Snapshot) (chapter entries : ℕ) (numbers : BookNumbers) : Type 0 where
  pub of_state : numbers.state ≡ snapshot.number
  pub of_chapter : numbers.chapter ≡ chapter
  pub of_left : numbers.left ≡ snapshot.limits.journal - entries
  pub of_bytes : numbers.bytes ≡ u64_saturate (total_bytes snapshot.files)

-- the numbers are those of this book
abbrev pub AreBookNumbers : Machine → BookNumbers → Type 0
AreBookNumbers m numbers = AreNumbersOf (snapshot_of (content m)) m.begun (length m.journal) numbers

-- The numbers are those of a server over this book with one session and no worker. It closes no chapter before the journal is full. How many bytes the
-- changes of the chapter keep, no clause says.
pub record AreSoloNumbers (m : Machine) (numbers : ServerNumbers) : Type 0 where
  pub one_session : numbers.sessions ≡ 1
  pub no_worker : numbers.workers ≡ 0
  pub at_limit : numbers.due ≡ numbers.book.left
  pub of_book : AreBookNumbers m numbers.book

-- how many bytes the texts have that an edit set puts into files: those of added files, and of edits
abbrev pub bytes_put : FileChanges → ℕ
bytes_put set = sum_by (λ file. length file.1) set.added + sum_by (λ change. added_by change.edits) set.changed

-- how many bytes are kept behind a change that puts so many into files, by its outcome; so many were before
abbrev pub kept_with : (kept bytes : ℕ) → Result ℕ Refusal → ℕ
kept_with kept bytes (Ok number) = u64_saturate (kept + bytes)
kept_with kept bytes (Err refusal) = kept
