-- The packages after a change that adds and removes no package.
use Rattle.std.specs.Prelude.{◌≡◌, ℕ, ◌⊎◌, ◌||◌, Bool, true, false, List, [], ◌∷◌, Some, slice_get}
use Rattle.std.specs.List.{Contains}
use Rattle.workspace_graph.specs.Graphs.{paths_of}
use Rattle.workspace_graph.specs.Imports.{LinkTable, row_of}
use Rattle.workspace_graph.specs.Rows.{IsRow}
use Rattle.workspace_graph.specs.declared.package.ParsedPackage.{ParsedPackage}

-- Whether the list is not empty.
abbrev pub has_some : {X : Type 0} → List X → Bool
has_some [] = false
has_some (x ∷ xs) = true

-- Whether the package has a file.
abbrev pub has_file : ParsedPackage → Bool
has_file p = has_some p.trees.items || has_some p.faulty.items

-- The package has a file exactly if its path is among the paths: it is neither added nor removed.
abbrev pub KeepsPath : List (List ℕ) → ParsedPackage → Type 0
KeepsPath paths p = (Contains paths p.path.items × (has_file p ≡ true)) ⊎ ((Contains paths p.path.items → ⊥) × (has_file p ≡ false))

-- `packages` are those of `before`, each replaced by the package of `fresh` that has its path, if there is one.
pub record AreReplaced (before fresh packages : List ParsedPackage) : Type 0 where
  pub paths : paths_of packages ≡ paths_of before
  pub each : (i : ℕ) (p : ParsedPackage) → slice_get packages i ≡ Some p → Contains fresh p ⊎
      ((slice_get before i ≡ Some p) × (Contains (paths_of fresh) p.path.items → ⊥))

-- If the package has a number in `paths`, its row in `g` has what its files import.
abbrev pub HasRow : List (List ℕ) → LinkTable → ParsedPackage → Type 0
HasRow paths g p = (n : ℕ) → slice_get paths n ≡ Some p.path.items → IsRow paths p.trees.items (row_of g n)
