-- What the steps of finding the edits of a move answer.
use Rattle.std.specs.Prelude.{ℕ, ◌≡◌, ◌≢◌, ◌<◌, ◌↔◌, ◌⊎◌, Bool, false, List, [], ◌∷◌, ⊤, Option, Some, None, Result, Ok, Err, IsTrue, IsSome}
use Rattle.std.specs.Prelude.{Contains, Vec, length, codes, slice_get, slice_index_or, if◌then◌else◌}
use Rattle.std.specs.BTreeMap.{BTreeMap, get}
use Rattle.base_files.specs.Packages.{is_go}
use Rattle.base_files.specs.Workspace.{Workspace, path_cmp}
use Rattle.base_files.specs.declared.refusal.Refusal.{Refusal}
use Rattle.base_files.specs.declared.refusal.Refusal.TheVariants.{Memory, TooLarge}
use Rattle.base_files.specs.declared.place.Span.{Span}
use Rattle.go_scanner.specs.CutText.{tokens_in}
use Rattle.go_ast.specs.SourceFile.{SourceFile}
use Rattle.workspace_graph.specs.FileImports.{import_literals}
use Rattle.workspace_graph.specs.declared.file_imports.FileImport.{FileImport}
use Rattle.types_declared.specs.Files.{HasLiteral}
use Rattle.types_declared.specs.Package.{Package}
use Rattle.workspace_check.specs.Verdicts.{Verdicts}
use Rattle.base_edits.specs.declared.change.FileChange.{FileChange}
use Rattle.base_edits.specs.declared.change.Fate.TheVariants.{Stays, Moves}
use Rattle.base_edits.specs.declared.edit.Edit.{Edit}
use Rattle.refs_binding.specs.Workspaces.{IsPackageAt}
use Rattle.refactor_rename.specs.NewName.{IsNewName, IsReserved}
use Rattle.refactor_move.specs.declared.moved.Moved.{Moved}
use Rattle.refactor_move.specs.PathSteps.{HasNoPathFor}
use Rattle.refactor_move.specs.Paths.{IsUnder, HasMovedPackage, quoted}
use Rattle.refactor_move.specs.FileEdits.{AreFileMoveEdits}
use Rattle.refactor_move.specs.Changes.{AreGoEdits, MovesOrEdits}

-- Names and literals

-- The name of a package that is called `last` can follow its path and become `name`: `name` is legal for a package and differs, and `last`
-- is not `main`.
pub record MayFollowPath (last name : List ℕ) : Type 0 where
  pub no_main : last ≢ codes "main"
  pub other : name ≢ last
  pub form : IsNewName name
  pub free : ¬ (IsReserved name)

-- The token is a string literal that stands for the path of a package that moves, and `text` is its new path in quotes.
pub record IsNewLiteral (f : SourceFile) (m : Moved) (token : ℕ) (text : List ℕ) : Type 0 where
  pub old : List ℕ
  pub stands_for : HasLiteral f token old
  pub new : List ℕ
  pub moves : HasMovedPackage m.from m.to old new
  pub is_text : text ≡ quoted new

-- The edit that replaces the span by the text, if there is one.
abbrev pub edits_with : Span → Option (List ℕ) → List Edit
edits_with span None = []
edits_with span (Some text) = record { span = span; text = text } ∷ []

-- Marks

-- The new marks are the old ones, and those of the tokens of which `P` holds.
pub record NewMarks (old new : List Bool) (P : ℕ → Type 0) : Type 0 where
  pub size : length new ≡ length old
  pub each : (i : ℕ) → i < length old → IsTrue (slice_index_or new i false) ↔ (IsTrue (slice_index_or old i false) ⊎ P i)

-- The token `i` is the string literal of one of the imports.
abbrev pub IsLiteralAmong : List FileImport → ℕ → Type 0
IsLiteralAmong imports i = (x : FileImport) × Contains imports x × (x.literal ≡ i)

-- The list has `count` marks, and the tokens of which `P` holds are marked.
pub record AreMarksOf (P : ℕ → Type 0) (count : ℕ) (marks : List Bool) : Type 0 where
  pub size : length marks ≡ count
  pub each : (i : ℕ) → i < length marks → IsTrue (slice_index_or marks i false) ↔ P i

-- The list has a mark for each token of the file, and the string literals of its imports are marked.
abbrev pub AreImportMarks : SourceFile → List Bool → Type 0
AreImportMarks f marks = AreMarksOf (Contains (import_literals f.tree)) (length (tokens_in f.cut)) marks

-- The edits of files, by their paths

abbrev pub EditMap : Type 0
EditMap = BTreeMap (List ℕ) (List Edit)

abbrev pub edits_for : EditMap → List ℕ → Option (List Edit)
edits_for map path = get path_cmp map path

-- The edits of each path of which `F` holds are added. `K` holds of each new entry.
pub record AddsEdits (old new : EditMap) (K : List ℕ → List Edit → Type 0) (F : List ℕ → Type 0) : Type 0 where
  pub keeps : (path : List ℕ) → IsSome (edits_for old path) → IsSome (edits_for new path)
  pub holds : (path : List ℕ) → F path → IsSome (edits_for new path)
  pub only : (path : List ℕ) (edits : List Edit) → edits_for new path ≡ Some edits → (edits_for old path ≡ Some edits) ⊎ K path edits

-- The file of this rank in the package `p` has this path.
pub record IsFileAt (p : Package) (rank : ℕ) (path : List ℕ) : Type 0 where
  pub source : SourceFile
  pub has_rank : slice_get p.files rank ≡ Some source
  pub of_path : source.path ≡ path

-- The file of this rank in the package `p` has this path, and these edits.
pub record AreEditsAt (p : Package) (m : Moved) (rank : ℕ) (path : List ℕ) (edits : List Edit) : Type 0 where
  pub file : IsFileAt p rank path
  pub are : AreFileMoveEdits p rank file.source m edits

-- Some file of the package `p` has this path.
abbrev pub HasFileIn : Package → List ℕ → Type 0
HasFileIn p path = (rank : ℕ) × IsFileAt p rank path

-- Some file of the package `p` has this path, and these edits.
abbrev pub AreEditsIn : Package → Moved → List ℕ → List Edit → Type 0
AreEditsIn p m path edits = (rank : ℕ) × AreEditsAt p m rank path edits

-- The map has the edits of each file of the first `count` packages, and each of its entries is right.
pub record KnowsEdits (w : Workspace) (known : Verdicts) (m : Moved) (count : ℕ) (map : EditMap) : Type 0 where
  pub right : (path : List ℕ) (edits : List Edit) → edits_for map path ≡ Some edits → AreGoEdits w known m path edits
  pub all : (n : ℕ) (p : Package) (path : List ℕ) → n < count → IsPackageAt w known n p → HasFileIn p path → IsSome (edits_for map path)

abbrev pub edits_or_none : Option (List Edit) → List Edit
edits_or_none None = []
edits_or_none (Some edits) = edits

-- The edits that the map has for the file at this path. A file that is no Go file has none.
abbrev pub edits_found : EditMap → List ℕ → List Edit
edits_found map path = if is_go path then edits_or_none (edits_for map path) else []

-- Changes

-- The change of a file that stays at its path, if it has edits.
abbrev pub edited_or_none : List ℕ → List Edit → Option FileChange
edited_or_none path [] = None
edited_or_none path (e ∷ edits) = Some (record { path = path; edits = e ∷ edits; fate = Stays })

-- The change of a file with these edits and this new path, if it has one of them.
abbrev pub change_by : List ℕ → List Edit → Option (List ℕ) → Option FileChange
change_by path edits None = edited_or_none path edits
change_by path edits (Some new) = Some (record { path = path; edits = edits; fate = Moves new })

-- The change of the file at this path, `None` where it is neither moved nor edited, or `TooLarge` where its new path would be none.
abbrev pub FindsChange : Moved → (path : List ℕ) → List Edit → Result (Option FileChange) Refusal → Type 0
FindsChange m path edits (Ok None) = (IsUnder m.from path → ⊥) × (edits ≡ [])
FindsChange m path edits (Ok (Some c)) = (c.path ≡ path) × (c.edits ≡ edits) × MovesOrEdits m c
FindsChange m path edits (Err TooLarge) = HasNoPathFor m path
FindsChange m path edits (Err Memory) = ⊤
FindsChange m path edits (Err refusal) = ⊥

-- The changes of the files of this list that move or have edits.
pub data AreChangesOf (m : Moved) (map : EditMap) : List (List ℕ × List ℕ) → List FileChange → Type 0 where
  none : AreChangesOf m map [] []
  kept : {e : List ℕ × List ℕ} {es : List (List ℕ × List ℕ)} {cs : List FileChange} → (IsUnder m.from e.0 → ⊥) → edits_found map e.0 ≡ [] →
      AreChangesOf m map es cs → AreChangesOf m map (e ∷ es) cs
  changed : {e : List ℕ × List ℕ} {es : List (List ℕ × List ℕ)} {c : FileChange} {cs : List FileChange} → c.path ≡ e.0 → c.edits ≡ edits_found map e.0 →
      MovesOrEdits m c → AreChangesOf m map es cs → AreChangesOf m map (e ∷ es) (c ∷ cs)

-- The changes of the files of this list, or `TooLarge` where the new path of one of them would be none.
abbrev pub FindsChanges : {Z : Type 0} → Moved → EditMap → List (List ℕ × List ℕ) → Result (Vec FileChange Z) Refusal → Type 0
FindsChanges m map files (Ok changes) = AreChangesOf m map files changes.items
FindsChanges m map files (Err TooLarge) = (file : List ℕ × List ℕ) × (Contains files file × HasNoPathFor m file.0)
FindsChanges m map files (Err Memory) = ⊤
FindsChanges m map files (Err refusal) = ⊥
