-- Packages in which the rename of fields or methods can turn no use of a member.
use Rattle.std.specs.Prelude.{ℕ, ◌≡◌, ◌⊎◌, Bool, false, List, Option, Some, slice_get}
use Rattle.base_files.specs.Packages.{package_paths}
use Rattle.base_files.specs.Workspace.{Workspace}
use Rattle.types_declared.specs.Laid.{is_exported}
use Rattle.workspace_graph.specs.Search.{IsMarked}
use Rattle.refs_binding.specs.declared.declaration.Declaration.{Declaration}
use Rattle.refs_places.specs.Homes.{IsHomeOfSome}
use Rattle.law_renamed_workspaces.specs.Reaching.{ReachesPath}

-- The present name was found, and neither it nor the new name is exported.
pub record AreUnexportedNames (called : Option (List ℕ)) (name : List ℕ) : Type 0 where
  pub old : List ℕ
  pub has_old : called ≡ Some old
  pub not_old : is_exported old ≡ false
  pub not_new : is_exported name ≡ false

-- The package at `path` reaches no package of a renamed member. Or it is no package of one, and no name is exported.
abbrev pub IsOutOfReach : Workspace → (called : Option (List ℕ)) → (name : List ℕ) → (set : List Declaration) → (path : List ℕ) → Type 0
IsOutOfReach w called name set path = ((home : List ℕ) → IsHomeOfSome set home → ReachesPath w path home → ⊥)
    ⊎ (AreUnexportedNames called name × (IsHomeOfSome set path → ⊥))

-- A package without a mark reaches no package with a start mark. Or it has no start mark itself, and no name is exported.
abbrev pub LeavesOutOfReach : Workspace → (called : Option (List ℕ)) → (name : List ℕ) → (starts marks : List Bool) → Type 0
LeavesOutOfReach w called name starts marks = (number : ℕ) (path : List ℕ) → slice_get (package_paths w) number ≡ Some path →
    (IsMarked marks number → ⊥) →
    ((start : ℕ) (home : List ℕ) → slice_get (package_paths w) start ≡ Some home → IsMarked starts start → ReachesPath w path home → ⊥)
    ⊎ (AreUnexportedNames called name × (IsMarked starts number → ⊥))
