-- The type definitions to which the fields and methods of a package belong, as they are listed.
use Rattle.std.specs.Prelude.{ℕ, ◌≡◌, Bool, List, Option, Some, None, MatchOption, slice_get, slice_index_or}
use Rattle.base_files.specs.Packages.{package_paths}
use Rattle.base_files.specs.Workspace.{Workspace}
use Rattle.types_declared.specs.Package.{Package}
use Rattle.workspace_graph.specs.Search.{IsMarked}
use Rattle.workspace_check.specs.Verdicts.{Verdicts}
use Rattle.refs_binding.specs.declared.declaration.Declaration.{Declaration}
use Rattle.refs_binding.specs.Workspaces.{IsPackageAt}
use Rattle.refs_places.specs.Outside.{declaring_path}
use Rattle.refactor_conflict.specs.MembersFound.{IsRankFound}
use Rattle.refactor_members.specs.Renames.{IsFieldOfDefinition, IsMethodOfDefinition}
use Rattle.refactor_members.specs.declared.definition.MemberOwners.{MemberOwners}

-- The lists have the type definitions to which the fields and methods of the package belong, by the ranks of these.
pub record AreOwnersIn (p : Package) (owners : MemberOwners) : Type 0 where
  pub fields : (rank : ℕ) → IsRankFound (IsFieldOfDefinition p rank) (slice_get owners.fields.items rank)
  pub methods : (rank : ℕ) → IsRankFound (IsMethodOfDefinition p rank) (slice_index_or owners.methods.items rank None)

-- The package of the number has these, or is not marked.
abbrev pub AreOwnersIfMarked : Workspace → Verdicts → (marks : List Bool) → (number : ℕ) → Option MemberOwners → Type 0
AreOwnersIfMarked w known marks number found =
    MatchOption found (IsMarked marks number → ⊥) (λ owners. (p : Package) → IsPackageAt w known number p → AreOwnersIn p owners)

-- The package of the number has the owners that the list has for the number.
pub record HasOwnersAt (w : Workspace) (known : Verdicts) (all : List (Option MemberOwners)) (number : ℕ) : Type 0 where
  pub owners : MemberOwners
  pub is_listed : slice_get all number ≡ Some (Some owners)
  pub are_owners : (p : Package) → IsPackageAt w known number p → AreOwnersIn p owners

-- If the workspace has the package that declares `d`, the list has the owners of its members.
abbrev pub KnowsHomeOf : Workspace → Verdicts → List (Option MemberOwners) → Declaration → Type 0
KnowsHomeOf w known all d =
    (number : ℕ) (path : List ℕ) → slice_get (package_paths w) number ≡ Some path → declaring_path d ≡ Some path → HasOwnersAt w known all number
