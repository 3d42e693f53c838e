-- Units with new names in their objects.
use Rattle.std.proofs.Common.{◌≡◌, ◌==◌, inl, inr, true, ℕ, ◌<◌, ◌≤◌, ◌+◌, List, [], length, drop, get_or, sym, ap, subst, ◌∙◌}
use Rattle.std.specs.Prelude.{None, Some, slice_get}
use Rattle.std.proofs.lemmas.Bool.{false≢true}
use Rattle.std.proofs.lemmas.Bool.Decides.{eqb_tells}
use Rattle.std.proofs.lemmas.List.{drop_all, drop_more, nil_from_length}
use Rattle.std.proofs.lemmas.Option.{none-some, same_Some}
use Rattle.base_files.specs.Packages.{package_paths}
use Rattle.base_files.specs.Workspace.{Workspace}
use Rattle.build_names.specs.Words.{NameChange, text_with_name}
use Rattle.build_unit.specs.declared.unit.Unit.{Unit as PackageUnit}
use Rattle.build_unit.specs.Units.{IsUnitAt, IsUnitOf, IsUnitValue, unit_value}
use Rattle.build_carry.specs.Finished.{Table}
use Rattle.build_kept.specs.KnownUnits.{AreKnownUnits, DeclaresChanged, IsKnownUnit, text_with_names, value_with_names}
use Rattle.build_kept.proofs.Names.{value_unchanged}

-- one name more is given
pub names_step : (cs : List NameChange) (n : ℕ) (d : NameChange) (text : List ℕ) → n < length cs →
    text_with_names (drop n cs) text ≡ text_with_names (drop (n + 1) cs) (text_with_name (get_or cs n d) text)
unfolding text_with_names
names_step cs n d text within = ap (λ l. text_with_names l text) (drop_more cs n d within)

-- all are given
pub names_end : (cs : List NameChange) (n : ℕ) (text : List ℕ) → length cs ≤ n → text_with_names (drop n cs) text ≡ text
unfolding text_with_names
names_end cs n text past = ap (λ l. text_with_names l text) (drop_all n cs past)

-- whether there are no names
pub no_names : (cs : List NameChange) → (length cs == 0) ≡ true → cs ≡ []
no_names cs is = elim (eqb_tells (length cs) 0) [
  | inl alike ↦ nil_from_length cs alike.1
  | inr other ↦ absurd (false≢true (sym other.0 ∙ is))
]

-- without names it stays
pub unnamed_unit : (w : Workspace) (cs : List NameChange) (p : List ℕ) (unit : PackageUnit) → cs ≡ [] → IsKnownUnit w cs p unit → IsUnitOf w p unit
unnamed_unit w cs p unit none is = record {
  value = subst (IsUnitValue w p) (value_unchanged (unit_value p unit)) (subst (λ ns. IsUnitValue w p (value_with_names ns (unit_value p unit))) none is.value);
  alone = is.alone;
}

-- a table and names that know units of w tell the unit of a package that declares nothing that is renamed
pub unit_told : (w : Workspace) (cs : List NameChange) (table : Table) (number : ℕ) (path : List ℕ) (unit made : PackageUnit) → AreKnownUnits w cs table →
    slice_get (package_paths w) number ≡ Some path → slice_get table number ≡ Some (Some unit) → (DeclaresChanged cs path → ⊥) →
    (IsKnownUnit w cs path unit → IsUnitOf w path made) → IsUnitAt w number (Some made)
unit_told w cs table number path unit made are at got free right p told has same =
    subst (λ q. IsUnitOf w q told) (same_Some path p (sym at ∙ has))
    (subst (IsUnitOf w path) (same_Some made told same) (right (are path unit (number, at, got) free)))

pub none_told : (w : Workspace) (number : ℕ) → IsUnitAt w number None
none_told w number p told has same = absurd (none-some told same)
