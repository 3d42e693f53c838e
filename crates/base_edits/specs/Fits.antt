-- Which changes are an edit set, and which workspaces an edit set fits.
use Rattle.std.specs.Prelude.{◌≡◌, ◌==◌, ℕ, List, length, ◌++◌, map, Option, Some, None, IsSome, IfSome, IsTrue, Bool, true, false}
use Rattle.std.specs.Option.{MatchOption}
use Rattle.std.specs.List.{All, Contains, filter_map, IsDistinct}
use Rattle.std.specs.List.Sorted.{IsStrictlySortedBy}
use Rattle.std.specs.Cmp.Lexicographic.{pointwise}
use Rattle.std.specs.FinMap as files
use Rattle.base_files.specs.Workspace.{Workspace, path_cmp}
use Rattle.base_edits.specs.Edits.{AreInOrder, LieWithin}
use Rattle.base_edits.specs.EditSet.{FileChanges, path_by, paths_of, change_in, change_of}
use Rattle.base_edits.specs.declared.change.FileChange.{FileChange}
use Rattle.base_edits.specs.declared.change.Fate.{Fate}
use Rattle.base_edits.specs.declared.change.Fate.TheVariants.{Stays, Moves, Dropped}

-- The path to which a fate moves a file, if it moves it.
abbrev pub new_path : Fate → Option (List ℕ)
new_path Stays = None
new_path (Moves path) = Some path
new_path Dropped = None

-- Whether a fate leaves the path of a file as it is.
abbrev pub is_staying : Fate → Bool
is_staying Stays = true
is_staying (Moves path) = false
is_staying Dropped = false

-- The new paths of the files that move, and the paths of the files that are added.
abbrev pub targets : FileChanges → List (List ℕ)
targets s = filter_map (λ c. new_path c.fate) s.changed ++ map (λ file. file.0) s.added

-- Changes form an edit set: they are sorted by path with no path twice, the edits of each file are in order, and no target occurs twice.
pub record IsEditSet (s : FileChanges) : Type 0 where
  pub in_order : All (λ c. AreInOrder 0 c.edits) s.changed
  pub by_path : IsStrictlySortedBy path_cmp (paths_of s.changed)
  pub differ : IsDistinct (pointwise ◌==◌) (targets s)

-- The path after a change of the file at `path`; without a change, the path itself. `None` where the change drops the file.
abbrev pub path_by_change : Option FileChange → List ℕ → Option (List ℕ)
path_by_change None path = Some path
path_by_change (Some c) path = path_by c.fate path

-- The path after an edit set of the file at `path` before it. `None` where the edit set drops the file.
abbrev pub path_after : FileChanges → List ℕ → Option (List ℕ)
path_after s path = path_by_change (change_of s path) path

-- The workspace has a file at `old`, which the edit set leaves at or moves to `new`.
abbrev pub MovesTo : FileChanges → Workspace → List ℕ → List ℕ → Type 0
MovesTo s w old new = IsSome (files.get w old) × (path_after s old ≡ Some new)

-- The workspace has the file of the change, and its text contains all spans of the edits.
abbrev pub HasSpans : Workspace → FileChange → Type 0
HasSpans w c = MatchOption (files.get w c.path) ⊥ (λ text. LieWithin (length text) c.edits)

-- Whether a change, or no change, leaves the path of a file as it is.
abbrev pub stays : Option FileChange → Bool
stays None = true
stays (Some c) = is_staying c.fate

-- The workspace has a file at the path, and the changes leave it at this path.
abbrev pub Remains : List FileChange → Workspace → List ℕ → Type 0
Remains changes w path = IsSome (files.get w path) × IsTrue (stays (change_in changes path))

-- No file is moved to, or added at, the path of a file that stays at its path.
abbrev pub AreFree : FileChanges → Workspace → Type 0
AreFree s w = All (λ c. IfSome (new_path c.fate) (λ path. ¬ (Remains s.changed w path))) s.changed × All (λ file. ¬ (Remains s.changed w file.0)) s.added

-- An edit set fits a workspace: each changed file exists and contains the spans of its edits, and no two files get one path.
pub record Fits (s : FileChanges) (w : Workspace) : Type 0 where
  pub there : All (HasSpans w) s.changed
  pub apart : (one other path : List ℕ) → MovesTo s w one path → MovesTo s w other path → one ≡ other
  pub free : (old : List ℕ) (file : List ℕ × List ℕ) → Contains s.added file → MovesTo s w old file.0 → ⊥
  pub once : (one other : List ℕ × List ℕ) → Contains s.added one → Contains s.added other → one.0 ≡ other.0 → one ≡ other
