-- The Go files, among the paths that a change names, that it leaves as they are, and the folders of the others.
use Rattle.std.specs.Prelude.{◌≡◌, ◌↔◌, ◌⊎◌, ℕ, true, List}
use Rattle.std.specs.FinMap as files
use Rattle.std.specs.List.{Contains}
use Rattle.base_files.specs.Packages.{is_go}
use Rattle.base_files.specs.Workspace.{Workspace}

-- If `path` is that of a Go file, the file has the same text before and after, or is in neither workspace.
abbrev pub KeepsFile : Workspace → Workspace → List ℕ → Type 0
KeepsFile before after path = is_go path ≡ true → files.get after path ≡ files.get before path

-- `new` lists the folders of `old`, and `folder`.
abbrev pub AddsFolder : List ℕ → List (List ℕ) → List (List ℕ) → Type 0
AddsFolder folder old new = (q : List ℕ) → Contains new q ↔ (Contains old q ⊎ (folder ≡ q))
