-- Units of packages that are known before the packages are built: those of an earlier workspace, with new names in their objects.
use Rattle.std.specs.Prelude.{ℕ, ◌≡◌, List, [], ◌∷◌, Contains}
use Rattle.base_files.specs.Packages.{package_paths}
use Rattle.base_files.specs.Workspace.{Workspace}
use Rattle.build_names.specs.Words.{NameChange, text_with_name}
use Rattle.build_unit.specs.declared.unit.Unit.{Unit as PackageUnit}
use Rattle.build_unit.specs.Units.{ExportsOnly, IsUnitValue, UnitValue, Faults, Done, unit_value}
use Rattle.build_carry.specs.Finished.{IsFinished, Table}

-- The text with all these new names, given one after the other.
unfoldable pub text_with_names : List NameChange → List ℕ → List ℕ
text_with_names [] text = text
text_with_names (c ∷ cs) text = text_with_names cs (text_with_name c text)

-- The value of a unit with these new names in its object. Faults stay.
abbrev pub value_with_names : List NameChange → UnitValue → UnitValue
value_with_names cs (Faults list) = Faults list
value_with_names cs (Done i object) = Done i (text_with_names cs object)

-- The package at the path declares what one of the changes renames.
abbrev pub DeclaresChanged : List NameChange → List ℕ → Type 0
DeclaresChanged cs p = (c : NameChange) × (Contains cs c × (c.path ≡ p))

-- Both workspaces have the same packages. Each that declares nothing that is renamed has the unit in x that it has in w, with the new names in
-- its object.
pub record CarriesUnits (w x : Workspace) (cs : List NameChange) : Type 0 where
  pub paths : package_paths w ≡ package_paths x
  pub each : (p : List ℕ) → Contains (package_paths w) p → (DeclaresChanged cs p → ⊥) → (u : UnitValue) → IsUnitValue w p u →
      IsUnitValue x p (value_with_names cs u)

-- With the new names in its object, the unit is that of the package p of w.
pub record IsKnownUnit (w : Workspace) (cs : List NameChange) (p : List ℕ) (unit : PackageUnit) : Type 0 where
  pub value : IsUnitValue w p (value_with_names cs (unit_value p unit))
  pub alone : ExportsOnly p unit

-- So is each unit of the table, but for packages that declare what is renamed.
abbrev pub AreKnownUnits : Workspace → List NameChange → Table → Type 0
AreKnownUnits w cs table = (p : List ℕ) (unit : PackageUnit) → IsFinished w table p unit → (DeclaresChanged cs p → ⊥) → IsKnownUnit w cs p unit
