-- The text lines of files, places, faults, compared objects, entries of the journal and packages.
use Rattle.std.specs.Prelude.{ℕ, List, [], ◌∷◌, ◌++◌, length, codes, decimal}
use Rattle.std.specs.List.{flat_map}
use Rattle.std.specs.FinMap as map
use Rattle.base_files.specs.PlaceText.{place_text, fault_line}
use Rattle.base_files.specs.Workspace.{Workspace}
use Rattle.base_files.specs.declared.place.Place.{Place}
use Rattle.workspace_check.specs.declared.fault.FileFault.{FileFault}
use Rattle.history_machine.specs.Kinds.{kind_name, reason_refusal}
use Rattle.history_machine.specs.declared.entry.Line.{Line}
use Rattle.history_machine.specs.declared.entry.ShownEntry.{ShownEntry}
use Rattle.history_machine.specs.declared.entry.ShownEntry.TheVariants.{OfLine, Closed, Unwritten}
use Rattle.history_machine.specs.declared.entry.Told.{Told}
use Rattle.history_machine.specs.declared.entry.Told.TheVariants.{Done, Refused}
use Rattle.history_objects.specs.declared.comparing.ComparedObject.{ComparedObject}
use Rattle.history_objects.specs.declared.comparing.ObjectChange.{ObjectChange}
use Rattle.history_objects.specs.declared.comparing.ObjectChange.TheVariants.{Equal, Differs, Missing}
use Rattle.server_session.specs.Refusals.{code_of}

-- a path, a space, the size of its text in bytes, and a newline
abbrev pub file_line : List ℕ → List ℕ → List ℕ
file_line path text = path ++ 32 ∷ (decimal (length text) ++ 10 ∷ [])

-- the lines of all files, in the order of paths
abbrev pub listing : Workspace → List ℕ
listing files = flat_map (λ e. file_line e.0 e.1) (map.entries files)

-- the lines of places, in their order
abbrev pub place_lines : List Place → List ℕ
place_lines = flat_map (λ place. place_text place ++ 10 ∷ [])

-- the lines of faults, in their order
abbrev pub fault_lines : List FileFault → List ℕ
fault_lines = flat_map (λ f. fault_line f.place f.kind)

-- the word of how an object compares with that in another state
abbrev pub change_word : ObjectChange → List ℕ
change_word Equal = codes "equal"
change_word Differs = codes "differs"
change_word Missing = codes "missing"

-- how the object of a package compares, a space, its path, and a newline
abbrev pub object_line : ComparedObject → List ℕ
object_line one = change_word one.change ++ 32 ∷ (one.package ++ 10 ∷ [])

-- the lines of packages, in their order
abbrev pub object_lines : List ComparedObject → List ℕ
object_lines = flat_map object_line

-- the path of a package, and a newline
abbrev pub package_line : List ℕ → List ℕ
package_line path = path ++ 10 ∷ []

-- the word of an outcome: `ok` or `no`, and a space
abbrev pub told_word : Told → List ℕ
told_word (Done number) = codes "ok "
told_word (Refused reason) = codes "no "

-- the number of an outcome: that of the state, or the refusal's code
abbrev pub told_number : Told → ℕ
told_number (Done number) = number
told_number (Refused reason) = code_of (reason_refusal reason)

-- the text line of an entry: its kind, its basis and its outcome
abbrev pub entry_line : Line → List ℕ
entry_line line = kind_name line.kind ++ 32 ∷ [] ++ decimal line.basis ++ 32 ∷ [] ++ told_word line.out ++ decimal (told_number line.out) ++ 10 ∷ []

-- the text line that says with which entry the current journal begins
abbrev pub closed_line : ℕ → List ℕ
closed_line begun = codes "closed " ++ decimal begun ++ 10 ∷ []

-- the text of what a log shows: the line of the entry, or where the current journal begins, or nothing
abbrev pub entry_text : ShownEntry → List ℕ
entry_text (OfLine line) = entry_line line
entry_text (Closed begun) = closed_line begun
entry_text Unwritten = []
