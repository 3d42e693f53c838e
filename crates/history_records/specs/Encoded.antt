-- Changes of a workspace as bytes, and what is read at the beginning of bytes.
use Rattle.std.specs.Prelude.{◌≡◌, ℕ, ◌<◌, ◌^◌, List, [], ◌∷◌, ◌++◌, length, ⊤, IsUtf8}
use Rattle.std.specs.Int.{to_le_bytes, w64}
use Rattle.std.specs.List.{AllByRecursion, flat_map}
use Rattle.base_edits.specs.EditSet.{FileChanges}
use Rattle.base_edits.specs.Fits.{IsEditSet}
use Rattle.base_edits.specs.declared.change.Fate.{Fate}
use Rattle.base_edits.specs.declared.change.Fate.TheVariants.{Stays, Moves, Dropped}
use Rattle.base_edits.specs.declared.change.FileChange.{FileChange}
use Rattle.base_edits.specs.declared.edit.Edit.{Edit}
use Rattle.base_files.specs.Path.{IsPath}
use Rattle.base_files.specs.declared.place.Span.{Span}
use Rattle.history_records.specs.declared.change.KeptChange.{KeptChange}
use Rattle.history_records.specs.declared.change.KeptChange.TheVariants.{Commit, Undo, Redo}
use Rattle.history_records.specs.declared.change.ChangeFault.{ChangeFault}
use Rattle.history_records.specs.declared.change.ChangeFault.TheVariants.{Memory, NoChange}

-- a number in eight bytes, the lowest first
unfoldable pub number_bytes : ℕ → List ℕ
number_bytes n = to_le_bytes w64 n

-- a text, behind the count of its bytes
abbrev pub text_bytes : List ℕ → List ℕ
text_bytes text = number_bytes (length text) ++ text

-- a list of values, behind their count, where each value has these bytes
abbrev pub list_bytes : {A : Type 0} → (A → List ℕ) → List A → List ℕ
list_bytes bytes_of values = number_bytes (length values) ++ flat_map bytes_of values

-- what becomes of a file's path: one byte tells it, and a new path follows
abbrev pub fate_bytes : Fate → List ℕ
fate_bytes Stays = 0 ∷ []
fate_bytes (Moves path) = 1 ∷ text_bytes path
fate_bytes Dropped = 2 ∷ []

abbrev pub span_bytes : Span → List ℕ
span_bytes span = number_bytes span.start ++ number_bytes span.end

abbrev pub edit_bytes : Edit → List ℕ
edit_bytes edit = span_bytes edit.span ++ text_bytes edit.text

-- the change of a file: its path, what becomes of it, and the edits
abbrev pub file_change_bytes : FileChange → List ℕ
file_change_bytes change = text_bytes change.path ++ (fate_bytes change.fate ++ list_bytes edit_bytes change.edits)

-- a file that is added: its path and its text
abbrev pub added_bytes : List ℕ × List ℕ → List ℕ
added_bytes file = text_bytes file.0 ++ text_bytes file.1

abbrev pub edit_set_bytes : FileChanges → List ℕ
edit_set_bytes set = list_bytes file_change_bytes set.changed ++ list_bytes added_bytes set.added

-- a change: one byte tells its kind, and its basis follows; behind that of a commit stand its edits
abbrev pub change_bytes : KeptChange → List ℕ
change_bytes (Commit basis edits) = 1 ∷ (number_bytes basis ++ edit_set_bytes edits)
change_bytes (Undo basis) = 2 ∷ number_bytes basis
change_bytes (Redo basis) = 3 ∷ number_bytes basis

-- Which values can be read. Numbers fit in eight bytes, and so do counts. Paths are texts of a workspace's paths.

abbrev pub IsNumber : ℕ → Type 0
IsNumber n = n < 2 ^ 64

abbrev pub IsText : List ℕ → Type 0
IsText text = IsNumber (length text)

abbrev pub IsPathText : List ℕ → Type 0
IsPathText path = IsPath 1 path × IsUtf8 path

-- so many values that their count fits, each with the property
abbrev pub AreCounted : {A : Type 0} → (A → Type 0) → List A → Type 0
AreCounted P values = IsNumber (length values) × AllByRecursion P values

abbrev pub IsFate : Fate → Type 0
IsFate Stays = ⊤
IsFate (Moves path) = IsPathText path
IsFate Dropped = ⊤

abbrev pub IsSpan : Span → Type 0
IsSpan span = IsNumber span.start × IsNumber span.end

abbrev pub IsEdit : Edit → Type 0
IsEdit edit = IsSpan edit.span × IsText edit.text

abbrev pub IsFileChange : FileChange → Type 0
IsFileChange change = IsPathText change.path × (IsFate change.fate × AreCounted IsEdit change.edits)

abbrev pub IsAddedFile : List ℕ × List ℕ → Type 0
IsAddedFile file = IsPathText file.0 × IsText file.1

abbrev pub AreChangedFiles : FileChanges → Type 0
AreChangedFiles set = AreCounted IsFileChange set.changed × AreCounted IsAddedFile set.added

abbrev pub IsKeptSet : FileChanges → Type 0
IsKeptSet set = AreChangedFiles set × IsEditSet set

abbrev pub IsKeptChange : KeptChange → Type 0
IsKeptChange (Commit basis edits) = IsNumber basis × IsKeptSet edits
IsKeptChange (Undo basis) = IsNumber basis
IsKeptChange (Redo basis) = IsNumber basis

-- the bytes are those of a value that can be read, and then `rest`
abbrev pub StartsWith : {A : Type 0} → (A → List ℕ) → (A → Type 0) → (bytes : List ℕ) → A → (rest : List ℕ) → Type 0
StartsWith bytes_of P bytes value rest = P value × (bytes ≡ bytes_of value ++ rest)

-- the bytes begin with no value that can be read
abbrev pub StartsWithNone : {A : Type 0} → (A → List ℕ) → (A → Type 0) → List ℕ → Type 0
StartsWithNone {A} bytes_of P bytes = (value : A) (rest : List ℕ) → StartsWith bytes_of P bytes value rest → ⊥

-- why no value is read at the beginning of the bytes
abbrev pub FailsToDecode : {A : Type 0} → (A → List ℕ) → (A → Type 0) → List ℕ → ChangeFault → Type 0
FailsToDecode bytes_of P bytes Memory = ⊤
FailsToDecode bytes_of P bytes NoChange = StartsWithNone bytes_of P bytes

-- The bytes are those of this change, and nothing stands behind it.
abbrev pub AreBytesOf : List ℕ → KeptChange → Type 0
AreBytesOf bytes change = IsKeptChange change × (bytes ≡ change_bytes change)

-- why the bytes are read as no change: they are those of none, or memory was wanting
abbrev pub IsNoChange : List ℕ → ChangeFault → Type 0
IsNoChange bytes Memory = ⊤
IsNoChange bytes NoChange = (change : KeptChange) → AreBytesOf bytes change → ⊥
