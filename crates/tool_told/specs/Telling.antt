-- What came of plans, as texts.
use Rattle.std.specs.Prelude.{◌≡◌, ◌⊎◌, ◌==◌, ℕ, List, [], ◌∷◌, ◌++◌, Option, None, Some, codes, drop, if◌then◌else◌, length, map, min, unwrap_or}
use Rattle.std.specs.List.{flat_map}
use Rattle.std.specs.Cmp.Lexicographic.{pointwise}
use Rattle.std.specs.FinMap as finmap
use Rattle.base_files.specs.Workspace.{Workspace}
use Rattle.base_files.specs.declared.place.Place.{Place}
use Rattle.base_files.specs.declared.refusal.Refusal.{Refusal}
use Rattle.base_files.specs.declared.refusal.Refusal.TheVariants.{Captured, Coupled, Faulty, Lost}
use Rattle.base_edits.specs.EditSet.{path_by}
use Rattle.base_edits.specs.declared.change.Fate.{Fate}
use Rattle.base_edits.specs.declared.change.Fate.TheVariants.{Dropped, Moves, Stays}
use Rattle.base_edits.specs.declared.change.FileChange.{FileChange}
use Rattle.workspace_check.specs.declared.fault.FileFault.{FileFault}
use Rattle.base_files.specs.declared.fault_kind.FaultKind.{FaultKind}
use Rattle.tool_text.specs.Diff.{IsDiff}
use Rattle.tool_text.specs.Faults.{fault_words}
use Rattle.tool_text.specs.Plain.{without_prefix}
use Rattle.tool_text.specs.Positions.{line_position}
use Rattle.tool_text.specs.Sentences.{located, told_text}
use Rattle.tool_told.specs.Messages.{message}
use Rattle.tool_told.specs.declared.rewriting.Rewrite.{Rewrite}
use Rattle.tool_told.specs.declared.telling.Naming.{Naming}

-- A path as it is told: without what stands before the folder.
abbrev pub shown : (prefix path : List ℕ) → List ℕ
shown prefix path = without_prefix prefix path

-- The text of a file, or no bytes where there is no file.
abbrev pub source_of : Workspace → List ℕ → List ℕ
source_of files path = unwrap_or (finmap.get files path) []

-- The offset of a place, or the end of its file where it lies behind that.
abbrev pub offset_in : Workspace → Place → ℕ
offset_in files place = min place.offset (length (source_of files place.path))

-- A place: `path:line:column`.
abbrev pub position_text : Naming → Place → List ℕ
position_text naming place =
    located (shown naming.prefix.now place.path) (line_position (source_of naming.files.now place.path) (offset_in naming.files.now place))

-- Places, each on a line.
abbrev pub places_text : Naming → List Place → List ℕ
places_text naming = flat_map (λ place. position_text naming place ++ 10 ∷ [])

-- What is told of a fault of this kind at a place.
abbrev pub words_at : Naming → Place → FaultKind → List ℕ
words_at naming place kind =
    fault_words kind (drop (offset_in naming.files.now place) (source_of naming.files.now place.path))

-- A fault: its place and what is told of it, on a line.
abbrev pub fault_text : Naming → FileFault → List ℕ
fault_text naming fault = position_text naming fault.place ++ (codes ": " ++ (words_at naming fault.place fault.kind ++ 10 ∷ []))

-- Faults, each on a line.
abbrev pub faults_text : Naming → List FileFault → List ℕ
faults_text naming = flat_map (fault_text naming)

-- A sentence about a place, with its line.
abbrev pub told_at : Naming → Place → List ℕ → List ℕ
told_at naming place words =
    told_text (shown naming.prefix.now place.path) (source_of naming.files.now place.path) (offset_in naming.files.now place) words

-- What is told of a fault that refuses, and the place of what captures.
abbrev pub detail_text : Naming → Refusal → List ℕ
detail_text naming (Faulty place kind) = words_at naming place kind
detail_text naming (Captured used (Some by)) = position_text naming by
detail_text naming refusal = []

-- What is told of a refusal, with what is told of a fault and the place of what captures.
abbrev pub message_text : Naming → Refusal → List ℕ
message_text naming refusal = message refusal ++ detail_text naming refusal

-- The place that a refusal names, or else the one that was asked for.
abbrev pub place_of : Refusal → Option Place → Option Place
place_of (Faulty place kind) asked = Some place
place_of (Captured used by) asked = Some used
place_of (Lost used) asked = Some used
place_of (Coupled place) asked = Some place
place_of refusal asked = asked

-- A sentence about a place, or about the word that was asked for where there is no place.
abbrev pub sentence_about : Naming → List ℕ → Option Place → List ℕ → List ℕ
sentence_about naming word None words = word ++ (codes ": " ++ (words ++ 10 ∷ []))
sentence_about naming word (Some place) words = told_at naming place words

-- What is told of a refusal: a sentence about its place, or about the word that was asked for.
abbrev pub refusal_text : Naming → List ℕ → Option Place → Refusal → List ℕ
refusal_text naming word asked refusal = sentence_about naming word (place_of refusal asked) (message_text naming refusal)

-- The path of a changed file behind the change.
abbrev pub new_path_of : FileChange → List ℕ
new_path_of change = unwrap_or (path_by change.fate change.path) change.path

-- The line with both paths with which `git` begins the diff of a file that moves.
abbrev pub git_line : (old_path new_path : List ℕ) → List ℕ
git_line old_path new_path = codes "diff --git a/" ++ (old_path ++ (codes " b/" ++ (new_path ++ 10 ∷ [])))

-- The lines that say from which path to which a file moves.
abbrev pub move_lines : (old_path new_path : List ℕ) → List ℕ
move_lines old_path new_path = codes "rename from " ++ (old_path ++ (codes "\nrename to " ++ (new_path ++ 10 ∷ [])))

-- The paths of a file that moves, as `git` writes them.
abbrev pub moved_text : Fate → (old_path new_path : List ℕ) → List ℕ
moved_text (Moves path) old_path new_path = git_line old_path new_path ++ move_lines old_path new_path
moved_text Stays old_path new_path = []
moved_text Dropped old_path new_path = []

-- The diff of two texts, or nothing where they are the same.
abbrev pub IsChangeDiff : (old_path new_path old new diff : List ℕ) → Type 0
IsChangeDiff old_path new_path old new diff = ((old ≡ new) × (diff ≡ [])) ⊎ IsDiff old_path new_path old new diff

-- The text tells how a file changes: its paths where it moves, and the diff of its texts before and after.
pub record TellsFile (naming : Naming) (after : Workspace) (change : FileChange) (told : List ℕ) : Type 0 where
  pub diff : List ℕ
  pub is_diff : IsChangeDiff (shown naming.prefix.now change.path) (shown naming.prefix.now (new_path_of change))
      (source_of naming.files.now change.path) (source_of after (new_path_of change)) diff
  pub is_told : told ≡ moved_text change.fate (shown naming.prefix.now change.path) (shown naming.prefix.now (new_path_of change)) ++ diff

-- The text tells how these files change, one after another.
abbrev pub TellsFiles : Naming → Workspace → List FileChange → List ℕ → Type 0
TellsFiles naming after [] told = told ≡ []
TellsFiles naming after (change ∷ changes) told =
    (first others : List ℕ) × (told ≡ first ++ others) × TellsFile naming after change first × TellsFiles naming after changes others

-- A change gives the file at `path` this text, and its path behind the change is `new_path`.
abbrev pub rewrite_of : Naming → Workspace → FileChange → List (List ℕ × List ℕ × List ℕ)
rewrite_of naming after change =
    if pointwise ◌==◌ (source_of naming.files.now change.path) (source_of after (new_path_of change))
    then []
    else (shown naming.prefix.now change.path, shown naming.prefix.now (new_path_of change), source_of after (new_path_of change)) ∷ []

-- The files to which the changes give other texts, in their order.
abbrev pub rewrites_of : Naming → Workspace → List FileChange → List (List ℕ × List ℕ × List ℕ)
rewrites_of naming after = flat_map (rewrite_of naming after)

-- The paths and the text of each rewrite.
abbrev pub rewrite_parts : List Rewrite → List (List ℕ × List ℕ × List ℕ)
rewrite_parts = map (λ (rewrite : Rewrite). (rewrite.path.now, rewrite.new_path.now, rewrite.text.now))

-- The new paths of rewrites, each on a line.
abbrev pub new_paths_text : List Rewrite → List ℕ
new_paths_text = flat_map (λ (rewrite : Rewrite). rewrite.new_path.now ++ 10 ∷ [])
