-- The type definitions that contain themselves, by links from each definition to those that it contains directly.
use Rattle.std.specs.Prelude.{ℕ, ◌≡◌, ◌<◌, ◌↔◌, ◌⊎◌, Bool, List, length, Contains}
use Rattle.std.specs.Global.{Vec}
use Rattle.go_ast.specs.Tree.{TypeTree, Local}
use Rattle.types_declared.specs.Package.{Package, package_types}
use Rattle.types_declared.specs.Written.{BindsToken, DeclaresType}
use Rattle.types_members.specs.MemberFaults.{ContainsDirectly, ContainsType}
use Rattle.types_declared.specs.Reachability.{LinksTo, HasMark}

-- the items with the property P were added, and no other
pub record AddsItems (old new : List ℕ) (P : ℕ → Type 0) : Type 0 where
  pub keeps : (q : ℕ) → Contains old q → Contains new q
  pub holds : (q : ℕ) → P q → Contains new q
  pub only : (q : ℕ) → Contains new q → Contains old q ⊎ P q

-- the type expression is an unqualified name that is bound to the definition of this rank
pub record IsBareName (p : Package) (file : ℕ) (tree : TypeTree) (rank : ℕ) : Type 0 where
  pub name : ℕ
  pub is_name : tree ≡ Local name
  pub declaration : ℕ
  pub binds : BindsToken p file name declaration
  pub names : DeclaresType p declaration rank

-- one of the type expressions is an unqualified name that is bound to the definition of this rank
abbrev pub HasBareName : Package → ℕ → List TypeTree → ℕ → Type 0
HasBareName p file ts rank = (t : TypeTree) × (Contains ts t × IsBareName p file t rank)

-- the links lead exactly from each definition to those that it contains directly
pub record AreContained (p : Package) (links : List (Vec ℕ)) : Type 0 where
  pub size : length links ≡ length (package_types p)
  pub each : (a b : ℕ) → LinksTo links a b ↔ ContainsDirectly p a b

-- the list marks exactly the definitions of the package that contain themselves, by rank
pub record AreRecursive (p : Package) (marks : List Bool) : Type 0 where
  pub all : length marks ≡ length (package_types p)
  pub each : (rank : ℕ) → rank < length (package_types p) → HasMark marks rank ↔ ContainsType p rank rank
