-- Links between definitions along which brokenness spreads: from each definition to those that mention it. The number behind the last rank
-- links to the definitions with a type expression that names no type.
use Rattle.std.specs.Prelude.{ℕ, Bool, suc, ◌<◌, ◌≤◌, ◌↔◌, ◌≡◌, ◌⊎◌, List, Option, length, MatchOption, Contains}
use Rattle.std.specs.Global.{Vec}
use Rattle.go_ast.specs.Tree.{TypeTree}
use Rattle.types_expr.specs.Types.{PlainType}
use Rattle.types_declared.specs.Package.{Package, package_types}
use Rattle.types_declared.specs.Written.{DenotesType, Mentions, IsWrittenIn, IsBroken}
use Rattle.types_declared.specs.Reachability.{LinksTo, HasMark}

-- links to the number to were added from each number with the property T, and no other
pub record AddsLinks (old new : List (Vec ℕ)) (to : ℕ) (T : ℕ → Type 0) : Type 0 where
  pub size : length new ≡ length old
  pub keeps : (a b : ℕ) → LinksTo old a b → LinksTo new a b
  pub holds : (a : ℕ) → T a → LinksTo new a to
  pub only : (a b : ℕ) → LinksTo new a b → LinksTo old a b ⊎ ((b ≡ to) × T a)

-- the target of a type expression: the rank of a definition that it mentions, or the number behind the last rank where it names no type
pub data IsTarget (p : Package) (file : ℕ) (tree : TypeTree) : ℕ → Type 0 where
  nothing : ((u : PlainType) → DenotesType p file tree u → ⊥) → IsTarget p file tree (length (package_types p))
  definition : {rank : ℕ} → Mentions p file tree rank → IsTarget p file tree rank

-- found is the only target of the type expression, or none where it has none
abbrev pub IsOneTarget : Package → ℕ → TypeTree → Option ℕ → Type 0
IsOneTarget p file tree found =
    MatchOption found ((a : ℕ) → IsTarget p file tree a → ⊥)
    (λ a. (a ≤ length (package_types p)) × (IsTarget p file tree a × ((b : ℕ) → IsTarget p file tree b → b ≡ a)))

-- a is the target of one of the type expressions
abbrev pub IsTargetOfSome : Package → ℕ → List TypeTree → ℕ → Type 0
IsTargetOfSome p file ts a = (t : TypeTree) × (Contains ts t × IsTarget p file t a)

-- the type expression names a type
abbrev pub NamesSome : Package → ℕ → TypeTree → Type 0
NamesSome p file tree = (u : PlainType) × DenotesType p file tree u

-- a is the target of a type expression in the definition b
pub record IsTargetIn (p : Package) (b a : ℕ) : Type 0 where
  pub file : ℕ
  pub tree : TypeTree
  pub written : IsWrittenIn p b file tree
  pub target : IsTarget p file tree a

-- the links lead exactly from each target to the definitions that contain a type expression with this target
pub record AreMentions (p : Package) (links : List (Vec ℕ)) : Type 0 where
  pub size : length links ≡ suc (length (package_types p))
  pub holds : (a b : ℕ) → IsTargetIn p b a → LinksTo links a b
  pub only : (a b : ℕ) → LinksTo links a b → IsTargetIn p b a

-- the list marks exactly the broken definitions, by rank
pub record AreBroken (p : Package) (marks : List Bool) : Type 0 where
  pub all : length (package_types p) ≤ length marks
  pub each : (rank : ℕ) → rank < length (package_types p) → HasMark marks rank ↔ IsBroken p rank
