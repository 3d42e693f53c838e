-- The files whose texts differ, as changes.
use Rattle.std.specs.Prelude.{ℕ, List, [], ◌∷◌, ◌==◌, Option, None, Some, if◌then◌else◌, length}
use Rattle.std.specs.Cmp.Lexicographic.{pointwise}
use Rattle.std.specs.FinMap as map
use Rattle.std.specs.List.{flat_map}
use Rattle.base_files.specs.Workspace.{Workspace}
use Rattle.base_edits.specs.declared.change.Fate.TheVariants.{Stays}
use Rattle.base_edits.specs.declared.change.FileChange.{FileChange}

-- The change that gives a file another text: all of it is replaced.
abbrev pub whole_change : (path old new : List ℕ) → FileChange
whole_change path old new = record {
  path = path;
  edits = record { span = record { start = 0; end = length old }; text = new } ∷ [];
  fate = Stays;
}

abbrev replaced_by : (path old : List ℕ) → Option (List ℕ) → List FileChange
replaced_by path old (Some new) = if pointwise ◌==◌ new old then [] else whole_change path old new ∷ []
replaced_by path old None = []

-- The change of a file, where it has another text after.
abbrev pub replaced_text : (path old : List ℕ) → Workspace → List FileChange
replaced_text path old after = replaced_by path old (map.get after path)

-- The changes of all files that have another text after.
abbrev pub replaced_texts : (before after : Workspace) → List FileChange
replaced_texts before after = flat_map (λ (file : List ℕ × List ℕ). replaced_text file.0 file.1 after) (map.entries before)
