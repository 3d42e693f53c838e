-- How the map of new files is made: first the files that leave their paths are removed, and then all new files are inserted.
use Rattle.std.specs.Prelude.{ℕ, List, [], ◌∷◌, Option, Some}
use Rattle.std.specs.Option.{option_and_then}
use Rattle.std.specs.List.{filter_map}
use Rattle.std.specs.FinMap as files
use Rattle.base_files.specs.Workspace.{Workspace}
use Rattle.base_edits.specs.EditSet.{FileChanges, file_by}
use Rattle.base_edits.specs.declared.change.Fate.{Fate}
use Rattle.base_edits.specs.declared.change.Fate.TheVariants.{Stays, Moves, Dropped}
use Rattle.base_edits.specs.declared.change.FileChange.{FileChange}

-- The workspace without the file at a path, unless it stays there.
abbrev pub without_file : Fate → List ℕ → Workspace → Workspace
without_file Stays path w = w
without_file (Moves to) path w = files.remove w path
without_file Dropped path w = files.remove w path

-- The workspace without the files of the changes that do not stay at their paths.
abbrev pub without_files : List FileChange → Workspace → Workspace
without_files [] w = w
without_files (c ∷ changes) w = without_files changes (without_file c.fate c.path w)

-- The workspace with the files inserted.
abbrev pub with_files : List (List ℕ × List ℕ) → Workspace → Workspace
with_files [] w = w
with_files (file ∷ rest) w = with_files rest (files.insert w file.0 file.1)

-- The file, as path and text, that a change makes of a file of `w`. `None` where the file is dropped or is not in `w`.
abbrev pub file_made : Workspace → FileChange → Option (List ℕ × List ℕ)
file_made w c = option_and_then (λ text. file_by (Some c) (c.path, text)) (files.get w c.path)

-- The workspace that an edit set makes of `w`, in the order of steps of the code.
abbrev pub made : FileChanges → Workspace → Workspace
made s w = with_files s.added (with_files (filter_map (file_made w) s.changed) (without_files s.changed w))
