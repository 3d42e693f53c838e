-- What the commands over a folder tell of the files that were read.
use Rattle.std.specs.Prelude.{◌≡◌, ◌⊎◌, ◌++◌, ℕ, ⊤, Bool, true, false, List, [], Option, None, Result, Ok, Err, codes, length, nat_eq}
use Rattle.std.specs.Prelude.{◌∷◌, map, option_map, string_bytes, take}
use Rattle.std.specs.List.{flat_map}
use Rattle.base_files.specs.Path.{IsPath}
use Rattle.base_files.specs.Workspace.{Workspace}
use Rattle.base_files.specs.declared.place.Place.{Place}
use Rattle.base_files.specs.declared.refusal.Refusal.{Refusal}
use Rattle.base_files.specs.declared.refusal.Refusal.TheVariants.{BadPath, NoPackage}
use Rattle.refactor_affected.specs.Moves.{PlansAffectedMove}
use Rattle.refactor_affected.specs.Renames.{PlansAffectedRename}
use Rattle.refs_binding.specs.Uses.{AnswersUses}
use Rattle.workspace_check.specs.FaultLists.{ListsFaults}
use Rattle.workspace_check.specs.declared.fault.FileFault.{FileFault}
use Rattle.workspace_snapshot.specs.declared.change.Change.{Change}
use Rattle.server_words.specs.declared.tools.MoveOptions.{MoveOptions}
use Rattle.server_words.specs.declared.tools.RenameOptions.{RenameOptions}
use Rattle.tool_told.specs.Asked.{FindsText, NamesPlace, path_below}
use Rattle.tool_told.specs.Outcomes.{Prints, Shows, cut_off_text, word_text}
use Rattle.tool_told.specs.Telling.{faults_text, new_paths_text, places_text, refusal_text, rewrite_parts, rewrites_of, shown}
use Rattle.tool_told.specs.declared.asked.NamedPlace.{NamedPlace}
use Rattle.tool_told.specs.declared.asked.NamedPlace.TheVariants.{NoPlace, NoPosition, Byte}
use Rattle.tool_told.specs.declared.outcome.CommandOutcome.{CommandOutcome}
use Rattle.tool_told.specs.declared.rewriting.Rewrite.{Rewrite}
use Rattle.tool_told.specs.declared.telling.Naming.{Naming}
use Rattle.tool_commands.specs.declared.opened.Opened.{Opened}

-- Places are told by the files of the folder, and by what stands before it in their paths.
pub record IsNamingOf (opened : Opened) (naming : Naming) : Type 0 where
  pub files : naming.files.now ≡ opened.folder.files
  pub prefix : naming.prefix.now ≡ string_bytes opened.prefix

-- A word is told, and why it is not taken.
abbrev pub TellsWord : Opened → (word why : List ℕ) → CommandOutcome → Type 0
TellsWord opened word why = Prints [] (opened.notes.items ++ word_text word why) false

-- A refusal is told, with the place or the word that was asked for.
abbrev pub TellsRefusal : Opened → (word : List ℕ) → Option Place → Refusal → CommandOutcome → Type 0
TellsRefusal opened word place refusal outcome =
    (naming : Naming) × IsNamingOf opened naming × Prints [] (opened.notes.items ++ refusal_text naming word place refusal) false outcome

-- The place of a byte that was asked for, where its file was read.
abbrev pub IsAskedPlace : Workspace → (path : List ℕ) → (offset : ℕ) → Option Place → Type 0
IsAskedPlace files path offset place =
    (text : Option (List ℕ)) × FindsText files path text × (place ≡ option_map (λ _. record { path = path; offset = offset }) text)

-- A refusal about a byte is told.
abbrev pub TellsRefusalAt : Opened → (word path : List ℕ) → (offset : ℕ) → Refusal → CommandOutcome → Type 0
TellsRefusalAt opened word path offset refusal outcome =
    (place : Option Place) × IsAskedPlace opened.folder.files path offset place × TellsRefusal opened word place refusal outcome

-- The path and the new text of each rewritten file.
abbrev pub text_parts : List Rewrite → List (List ℕ × List ℕ)
text_parts = map (λ (rewrite : Rewrite). (rewrite.path.now, rewrite.text.now))

-- The paths of rewritten files before the change, each on a line.
abbrev pub old_paths_text : List Rewrite → List ℕ
old_paths_text = flat_map (λ (rewrite : Rewrite). rewrite.path.now ++ 10 ∷ [])

-- The paths as they are told, and the texts, of files.
abbrev pub shown_texts : (prefix : List ℕ) → List (List ℕ × List ℕ) → List (List ℕ × List ℕ)
shown_texts prefix = map (λ (file : List ℕ × List ℕ). (shown prefix file.0, file.1))

-- What is told where files are written. Where all is done it is the paths of the rewritten files behind the change. Else it is why no more
-- is done, and the paths before the change of those whose new texts are in place: the first so many.
abbrev pub TellsWriting : List Rewrite → (notes : List ℕ) → CommandOutcome → Type 0
TellsWriting rewrites notes outcome = Prints (new_paths_text rewrites) notes true outcome
    ⊎ ((number : ℕ) × (why : List ℕ) × Prints (old_paths_text (take number rewrites)) (notes ++ cut_off_text why) false outcome)

-- A planned change is told. In a dry run its diffs are shown. Else its files are written, and that is told.
abbrev pub TellsChange : Opened → (dry_run : Bool) → Change → CommandOutcome → Type 0
TellsChange opened true change outcome =
    (naming : Naming) × IsNamingOf opened naming × Shows naming change.files change.edits.changed opened.notes.items outcome
TellsChange opened false change outcome = (naming : Naming) × (rewrites : List Rewrite) × IsNamingOf opened naming
    × (rewrite_parts rewrites ≡ rewrites_of naming change.files change.edits.changed) × TellsWriting rewrites opened.notes.items outcome

-- What came of the plan of a rename is told.
abbrev pub TellsRenamed : Opened → (word path : List ℕ) → (offset : ℕ) → (dry_run : Bool) → Result Change Refusal → CommandOutcome → Type 0
TellsRenamed opened word path offset dry_run (Ok change) = TellsChange opened dry_run change
TellsRenamed opened word path offset dry_run (Err refusal) = TellsRefusalAt opened word path offset refusal

-- The rename of the identifier at a byte is planned, and what came of that is told.
pub record TellsRename (opened : Opened) (word name : List ℕ) (dry_run : Bool) (path : List ℕ) (offset : ℕ) (outcome : CommandOutcome) : Type 0 where
  pub answer : Result Change Refusal
  pub plans : PlansAffectedRename opened.folder path offset name answer
  pub tells : TellsRenamed opened word path offset dry_run answer outcome

-- A refused move is about the folder that was to move, which has this path: there is no such package, or it is no path.
abbrev pub IsAboutSource : (path : List ℕ) → Refusal → Type 0
IsAboutSource path NoPackage = ⊤
IsAboutSource path BadPath = ¬ (IsPath 1 path)
IsAboutSource path refusal = ⊥

-- The word that a refused move is about: FROM where it is about that folder, and else TO.
abbrev pub IsMoveWord : (path from to : List ℕ) → Refusal → (word : List ℕ) → Type 0
IsMoveWord path from to refusal word = (IsAboutSource path refusal × (word ≡ from)) ⊎ (¬ (IsAboutSource path refusal) × (word ≡ to))

-- What came of the plan of a move is told.
abbrev pub TellsMoved : Opened → (from to : List ℕ) → (dry_run : Bool) → Result Change Refusal → CommandOutcome → Type 0
TellsMoved opened from to dry_run (Ok change) outcome = TellsChange opened dry_run change outcome
TellsMoved opened from to dry_run (Err refusal) outcome =
    (word : List ℕ) × IsMoveWord (path_below (string_bytes opened.prefix) from) from to refusal word × TellsRefusal opened word None refusal outcome

-- The move of a folder is planned, and what came of that is told.
pub record TellsMove (opened : Opened) (from to : List ℕ) (dry_run : Bool) (outcome : CommandOutcome) : Type 0 where
  pub answer : Result Change Refusal
  pub plans : PlansAffectedMove opened.folder (path_below (string_bytes opened.prefix) from) (path_below (string_bytes opened.prefix) to) answer
  pub tells : TellsMoved opened from to dry_run answer outcome

-- The uses that were found are told, or the refusal.
abbrev pub TellsPlaces : Opened → (word path : List ℕ) → (offset : ℕ) → Result (List Place) Refusal → CommandOutcome → Type 0
TellsPlaces opened word path offset (Ok places) outcome =
    (naming : Naming) × IsNamingOf opened naming × Prints (places_text naming places) opened.notes.items true outcome
TellsPlaces opened word path offset (Err refusal) outcome = TellsRefusalAt opened word path offset refusal outcome

-- The uses of what is declared or used at a byte are found, and told.
pub record TellsUses (opened : Opened) (word path : List ℕ) (offset : ℕ) (outcome : CommandOutcome) : Type 0 where
  pub answer : Result (List Place) Refusal
  pub answers : AnswersUses opened.folder.files path offset answer
  pub tells : TellsPlaces opened word path offset answer outcome

-- What the word of a place names is told, where it names no byte. Of a byte `P` tells.
abbrev pub TellsNamed : Opened → (word : List ℕ) → (P : List ℕ → ℕ → CommandOutcome → Type 0) → NamedPlace → CommandOutcome → Type 0
TellsNamed opened word P NoPlace = TellsWord opened word (codes "a place is PATH:#OFFSET or PATH:LINE:COLUMN")
TellsNamed opened word P NoPosition = TellsWord opened word (codes "the file has no such line and column")
TellsNamed opened word P (Byte path offset) = P (string_bytes path) offset

-- The word of a place is read, and what it names is told.
pub record TellsPlace (opened : Opened) (word : List ℕ) (P : List ℕ → ℕ → CommandOutcome → Type 0) (outcome : CommandOutcome) : Type 0 where
  pub named : NamedPlace
  pub names : NamesPlace opened.folder.files (string_bytes opened.prefix) word named
  pub tells : TellsNamed opened word P named outcome

-- The faults of all packages are told. The command is done only where there is none.
pub record TellsFaults (opened : Opened) (outcome : CommandOutcome) : Type 0 where
  pub list : List FileFault
  pub lists : ListsFaults opened.folder.files list
  pub naming : Naming
  pub is_naming : IsNamingOf opened naming
  pub prints : Prints (faults_text naming list) opened.notes.items (nat_eq (length list) 0) outcome

-- What `rename` tells: the word of its place is read, the rename planned, and what came of it told.
abbrev pub TellsRenameOf : RenameOptions → Opened → CommandOutcome → Type 0
TellsRenameOf options opened = TellsPlace opened options.place.now (TellsRename opened options.place.now options.name.now options.dry_run)

-- What `move` tells: the move is planned, and what came of it told.
abbrev pub TellsMoveOf : MoveOptions → Opened → CommandOutcome → Type 0
TellsMoveOf options opened = TellsMove opened options.from.now options.to.now options.dry_run

-- What `uses` tells: the word of its place is read, the uses found, and told.
abbrev pub TellsUsesOf : (word : List ℕ) → Opened → CommandOutcome → Type 0
TellsUsesOf word opened = TellsPlace opened word (TellsUses opened word)

-- This is told of the files that some folder gave.
abbrev pub TellsSome : (Opened → CommandOutcome → Type 0) → CommandOutcome → Type 0
TellsSome P outcome = (opened : Opened) × P opened outcome
