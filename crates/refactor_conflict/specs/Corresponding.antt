-- Which declaration after a change corresponds to a declaration before it.
use Rattle.std.specs.Prelude.{ℕ, ◌≡◌}
use Rattle.base_files.specs.declared.place.Place.{Place}
use Rattle.types_declared.specs.Package.{Package}
use Rattle.refs_binding.specs.declared.declaration.Declaration.{Declaration}
use Rattle.refs_binding.specs.declared.declaration.Declaration.TheVariants.{Predeclared}
use Rattle.refs_binding.specs.DeclaringPlaces.{IsDeclaredAt}

-- `d` of the packages before a change corresponds to `e` of those after it. Both are one predeclared name, or `e` is declared where the
-- change moves the place of `d`.
pub data Corresponds (Before After : Package → Type 0) (moved : Place → Place) : Declaration → Declaration → Type 0 where
  predeclared : {n : ℕ} → Corresponds Before After moved (Predeclared n) (Predeclared n)
  stands : {d e : Declaration} (place : Place) → IsDeclaredAt Before d place → IsDeclaredAt After e (moved place) → Corresponds Before After moved d e

-- `d` and `e` are one predeclared name.
pub record IsSamePredeclared (d e : Declaration) : Type 0 where
  pub number : ℕ
  pub one : d ≡ Predeclared number
  pub other : e ≡ Predeclared number
