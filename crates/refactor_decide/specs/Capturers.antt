-- How the capturer of a conflict names a declaration of a package, told by the package alone.
use Rattle.std.specs.Prelude.{ℕ, ◌<◌, Option, Some, None}
use Rattle.base_files.specs.declared.place.Place.{Place}
use Rattle.go_scope.specs.Bindings.{Counts}
use Rattle.types_declared.specs.Package.{Package}
use Rattle.refs_binding.specs.declared.declaration.Declaration.TheVariants.{Declared}
use Rattle.refs_binding.specs.DeclaringPlaces.{HasDeclarationAt}
use Rattle.refactor_conflict.specs.declared.conflict.Capturer.{Capturer}
use Rattle.refactor_conflict.specs.declared.conflict.Capturer.TheVariants.{Universe, At}

-- The capturer names the declaration `c` of the package: by its place, or as `Universe` where it has none, being predeclared.
abbrev pub NamesInPackage : Package → (c : ℕ) → Capturer → Type 0
NamesInPackage p c Universe = (place : Place) → HasDeclarationAt p (Declared p.path c) place → ⊥
NamesInPackage p c (At place) = HasDeclarationAt p (Declared p.path c) place

-- The same where there may be no capturer.
abbrev pub NamesEach : Package → Option ℕ → Option Capturer → Type 0
NamesEach p None None = Unit {0}
NamesEach p None (Some by) = ⊥
NamesEach p (Some c) None = ⊥
NamesEach p (Some c) (Some by) = NamesInPackage p c by

-- A declaration of the package that counts.
pub record IsCounting (p : Package) (c : ℕ) : Type 0 where
  pub within : c < p.size
  pub counts : Counts p.layout p.names c

-- If there is a number, the declaration of this number counts.
abbrev pub CountsIfAny : Package → Option ℕ → Type 0
CountsIfAny p None = Unit {0}
CountsIfAny p (Some c) = IsCounting p c
