-- The first use of a declaration in another package than its own.
use Rattle.std.specs.Prelude.{ℕ, ◌≡◌, ◌<◌, List, Option, Some, None, Contains, slice_get, MatchOption}
use Rattle.std.specs.Borrow.{Bor}
use Rattle.std.specs.declared.cmp.Ordering.TheVariants.{Less}
use Rattle.base_files.specs.Path.{folder}
use Rattle.base_files.specs.Workspace.{Workspace}
use Rattle.base_files.specs.declared.place.Place.{Place}
use Rattle.types_declared.specs.Package.{Package}
use Rattle.workspace_check.specs.Verdicts.{Verdicts}
use Rattle.refs_binding.specs.declared.declaration.Declaration.TheVariants.{Declared}
use Rattle.refs_binding.specs.Places.{place_cmp}
use Rattle.refs_binding.specs.Uses.{IsUseOf}
use Rattle.refactor_conflict.specs.declared.conflict.Conflict.{Conflict}
use Rattle.refactor_decide.specs.Capturers.{NamesEach}
use Rattle.refactor_decide.specs.declared.turned.TurnedUses.{TurnedUses}

-- The place of this index is outside of the package of this path, and those before it are inside.
pub record IsOutsideFirst (places : List Place) (path : List ℕ) (place : Place) : Type 0 where
  pub index : ℕ
  pub there : slice_get places index ≡ Some place
  pub outside : folder place.path ≡ path → ⊥
  pub others : (j : ℕ) (other : Place) → j < index → slice_get places j ≡ Some other → folder other.path ≡ path

-- The first of the places that is outside of the package of this path, or none where all are inside.
abbrev pub IsFirstOutside : List Place → (path : List ℕ) → Option (Bor Place) → Type 0
IsFirstOutside places path found =
    MatchOption found ((place : Place) → Contains places place → folder place.path ≡ path) (λ place. IsOutsideFirst places path place.now)

-- The conflict at the first of the places that is outside of the package, or none where all are inside.
abbrev pub IsFirstListed : Package → List Place → (by : Option ℕ) → Option Conflict → Type 0
IsFirstListed p places by None = (place : Place) → Contains places place → folder place.path ≡ p.path
IsFirstListed p places by (Some c) = IsOutsideFirst places p.path c.used × NamesEach p by c.by

-- A use of the declaration at the place is in another package than `p`.
pub record IsUsedOutside (w : Workspace) (known : Verdicts) (p : Package) (d : ℕ) (place : Place) : Type 0 where
  pub is_use : IsUseOf w known (Declared p.path d) place
  pub outside : folder place.path ≡ p.path → ⊥

-- The conflict at the first use of the declaration that is in another package than `p`, or none where there is none.
abbrev pub IsFirstUse : Workspace → Verdicts → Package → TurnedUses → Option Conflict → Type 0
IsFirstUse w known p t None = (place : Place) → IsUsedOutside w known p t.declaration place → ⊥
IsFirstUse w known p t (Some c) = IsUsedOutside w known p t.declaration c.used × NamesEach p t.by c.by ×
    ((place : Place) → place_cmp place c.used ≡ Less → IsUsedOutside w known p t.declaration place → ⊥)
