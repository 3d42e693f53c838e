-- The first declarations of names in their blocks.
use Rattle.std.specs.Prelude.{ℕ, ◌≡◌, ◌<◌, List, Option, Some, None}
use Rattle.go_scope.specs.declared.model.Block.{Block}
use Rattle.go_scope.specs.declared.model.Block.TheVariants.{Package}
use Rattle.go_scope.specs.Bindings.{Layout, Names, SameBlock, InScope, Declares, IsPackageLevel, IsImport, block_of}
use Rattle.go_scope.specs.Scopes.{Nests}

-- d is the first declaration of its name in its block
pub record IsLead (l : Layout) (names : Names) (d : ℕ) : Type 0 where
  pub declares : Declares l names d
  pub first : (e : ℕ) → Declares l names e → names e ≡ names d → SameBlock l e d → e < d → ⊥

-- d is the first declaration of the name in its block, which is an inner one
pub record IsLeadInside (l : Layout) (names : Names) (name : List ℕ) (d : ℕ) : Type 0 where
  pub leads : IsLead l names d
  pub named : names d ≡ name
  pub inner : Nests (block_of (l.role d)) Package

-- the first declaration of a name in a block, among the first n identifiers, or none
abbrev pub IsFirstIn : Layout → Names → List ℕ → Block → ℕ → Option ℕ → Type 0
IsFirstIn l names name block n None = (e : ℕ) → e < n → IsLead l names e → names e ≡ name → block_of (l.role e) ≡ block → ⊥
IsFirstIn l names name block n (Some e) = (e < n) × IsLead l names e × (names e ≡ name) × (block_of (l.role e) ≡ block)

-- `leader` is the first declaration of d's name in d's block, if it precedes d, else none
abbrev pub IsPrior : Layout → Names → ℕ → Option ℕ → Type 0
IsPrior l names d leader = IsFirstIn l names (names d) (block_of (l.role d)) d leader

-- there is a declaration, and the position of u is in its scope
abbrev pub IsInScopeOf : Layout → Option ℕ → ℕ → Type 0
IsInScopeOf l None u = ⊥
IsInScopeOf l (Some d) u = InScope l d u

-- the package block declares the name
abbrev pub IsDeclaredInPackage : Layout → Names → List ℕ → Type 0
IsDeclaredInPackage l names name = (e : ℕ) × (IsLead l names e × (names e ≡ name) × IsPackageLevel l e)

-- d is an import whose name the package block declares too
abbrev pub IsDisplacedImport : Layout → Names → ℕ → Type 0
IsDisplacedImport l names d = IsImport l d × IsDeclaredInPackage l names (names d)
