-- The files of a workspace after an edit set.
use Rattle.std.specs.Prelude.{ℕ, List, ◌++◌, map, Option, Some, None}
use Rattle.std.specs.List.{filter_map, find}
use Rattle.std.specs.Option.{option_map}
use Rattle.std.specs.Prelude.{◌==◌}
use Rattle.std.specs.Cmp.Lexicographic.{pointwise}
use Rattle.std.specs.FinMap as files
use Rattle.base_files.specs.Workspace.{Workspace}
use Rattle.base_edits.specs.Edits.{edited_text}
use Rattle.base_edits.specs.declared.change.FileChange.{FileChange}
use Rattle.base_edits.specs.declared.change.Fate.{Fate}
use Rattle.base_edits.specs.declared.change.Fate.TheVariants.{Stays, Moves, Dropped}

-- The changes of an edit set: the files that it changes, and the files that it adds, as pairs of path and text.
pub record FileChanges : Type 0 where
  pub changed : List FileChange
  pub added : List (List ℕ × List ℕ)

-- The path of a file after the change, by the fate of its path. `None` where the file is dropped.
abbrev pub path_by : Fate → List ℕ → Option (List ℕ)
path_by Stays path = Some path
path_by (Moves new) path = Some new
path_by Dropped path = None

-- The paths of the files that are changed, as they are before the change.
abbrev pub paths_of : List FileChange → List (List ℕ)
paths_of changes = map (λ c. c.path) changes

-- The change in a list whose file has the path, if there is one.
abbrev pub change_in : List FileChange → List ℕ → Option FileChange
change_in changes path = find (λ c. pointwise ◌==◌ c.path path) changes

-- The change that an edit set has for the file at a path, if there is one.
abbrev pub change_of : FileChanges → List ℕ → Option FileChange
change_of s path = change_in s.changed path

-- A file, as path and text, after its change. Without a change it stays as it was; `None` where the change drops it.
abbrev pub file_by : Option FileChange → List ℕ × List ℕ → Option (List ℕ × List ℕ)
file_by None file = Some file
file_by (Some c) file = option_map (λ path. (path, edited_text c.edits file.1)) (path_by c.fate file.0)

-- A file, as path and text, after an edit set. `None` where the edit set drops it.
abbrev pub file_after : FileChanges → List ℕ × List ℕ → Option (List ℕ × List ℕ)
file_after s file = file_by (change_of s file.0) file

-- All files after an edit set: the added ones, and each file of the workspace after its change.
abbrev pub files_after : FileChanges → Workspace → List (List ℕ × List ℕ)
files_after s w = s.added ++ filter_map (file_after s) (files.entries w)

-- The workspace after an edit set.
abbrev pub edited : FileChanges → Workspace → Workspace
edited s w = files.from_entries (files_after s w)
