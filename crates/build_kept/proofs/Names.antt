-- Names that are given one after the other.
use Rattle.std.proofs.Common.{◌≡◌, ℕ, List, [], ◌∷◌, ◌++◌, append-nil, refl, sym, ap, subst, ◌∙◌}
use Rattle.std.specs.Prelude.{Contains, Some, slice_get}
use Rattle.std.proofs.lemmas.List.Elements.{Contains-append_left, Contains-append_right}
use Rattle.base_files.specs.Packages.{package_paths}
use Rattle.base_files.specs.Workspace.{Workspace}
use Rattle.workspace_graph.proofs.ByPath.{at_contains}
use Rattle.build_names.specs.Words.{NameChange, text_with_name}
use Rattle.build_unit.specs.declared.unit.Unit.{Unit as PackageUnit}
use Rattle.build_unit.specs.Units.{IsUnitValue, UnitValue, Faults, Done, unit_value}
use Rattle.build_carry.specs.Finished.{IsFinished, Table}
use Rattle.build_kept.specs.KnownUnits.{AreKnownUnits, CarriesUnits, DeclaresChanged, IsKnownUnit, text_with_names, value_with_names}

pub text_appended : (cs ds : List NameChange) (text : List ℕ) → text_with_names (cs ++ ds) text ≡ text_with_names ds (text_with_names cs text)
unfolding text_with_names
text_appended [] ds text = refl
text_appended (c ∷ cs) ds text = text_appended cs ds (text_with_name c text)

value_appended : (cs ds : List NameChange) (u : UnitValue) → value_with_names (cs ++ ds) u ≡ value_with_names ds (value_with_names cs u)
value_appended cs ds (Faults list) = refl
value_appended cs ds (Done i object) = ap (Done i) (text_appended cs ds object)

pub text_once : (c : NameChange) (text : List ℕ) → text_with_names (c ∷ []) text ≡ text_with_name c text
unfolding text_with_names
text_once c text = refl

pub value_unchanged : (u : UnitValue) → value_with_names [] u ≡ u
unfolding text_with_names
value_unchanged (Faults list) = refl
value_unchanged (Done i object) = refl

pub carried_units : (w x : Workspace) (cs ds : List NameChange) (table : Table) → AreKnownUnits w cs table → CarriesUnits w x ds →
    AreKnownUnits x (cs ++ ds) table
carried_units w x cs ds table are carries p unit finished free =
    let at : slice_get (package_paths w) finished.0 ≡ Some p = subst (λ ps. slice_get ps finished.0 ≡ Some p) (sym carries.paths) finished.1 in
    let known = are p unit (finished.0, at, finished.2) (λ d. free (d.0, (Contains-append_left cs ds d.0 d.1.0, d.1.1))) in
    record {
      value = subst (IsUnitValue x p) (sym (value_appended cs ds (unit_value p unit)))
          (carries.each p (at_contains w finished.0 p at) (λ d. free (d.0, (Contains-append_right cs ds d.0 d.1.0, d.1.1)))
          (value_with_names cs (unit_value p unit)) known.value);
      alone = known.alone;
    }

-- the same with what clones and copies are

pub carried_over : (w x y : Workspace) (cs ds es : List NameChange) (table same : Table) → AreKnownUnits w cs table → CarriesUnits w x ds → y ≡ x →
    es ≡ cs ++ ds → same ≡ table → AreKnownUnits y es same
carried_over w x y cs ds es table same are carries files names units =
    subst (λ (z : Workspace). AreKnownUnits z es same) (sym files)
    (subst (λ ns. AreKnownUnits x ns same) (sym names)
    (subst (AreKnownUnits x (cs ++ ds)) (sym units) (carried_units w x cs ds table are carries)))

pub copied_units : (w y : Workspace) (cs es : List NameChange) (table same : Table) → AreKnownUnits w cs table → y ≡ w → es ≡ cs ++ [] → same ≡ table →
    AreKnownUnits y es same
copied_units w y cs es table same are files names units =
    subst (λ (z : Workspace). AreKnownUnits z es same) (sym files)
    (subst (λ ns. AreKnownUnits w ns same) (sym (names ∙ append-nil cs)) (subst (AreKnownUnits w cs) (sym units) are))

pub unnamed_units : (w : Workspace) (cs : List NameChange) (table : Table) → AreKnownUnits w [] table → cs ≡ [] → AreKnownUnits w cs table
unnamed_units w cs table are none = subst (λ ns. AreKnownUnits w ns table) (sym none) are
