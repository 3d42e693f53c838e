-- Where the unit of a finished package stands, a number below which each package is finished, and tables in which none is.
use Rattle.std.proofs.Common.{◌≡◌, ℕ, ◌+◌, ◌<◌, List, [], ◌∷◌, ◌++◌, Option, length, None, Some, get_or, slice_get, sym, ap, subst, ◌∙◌, inl, inr}
use Rattle.std.proofs.Common.{arith, length-append}
use Rattle.std.proofs.Math.ListN.{set}
use Rattle.std.proofs.lemmas.Bool.{cases_eq, cases_lt}
use Rattle.std.proofs.lemmas.List.{get_or-set_same, get_or-set_other, length-set, get_or_append_left, get_or_push}
use Rattle.std.proofs.lemmas.Option.{none-some, get_or_from_slice_get, slice_get-get_or, slice_get_within}
use Rattle.base_files.specs.Packages.{package_paths}
use Rattle.base_files.specs.Workspace.{Workspace}
use Rattle.workspace_graph.proofs.PackagePaths.{one_number, paths_sorted}
use Rattle.build_unit.specs.declared.unit.Unit.{Unit as PackageUnit}
use Rattle.build_carry.specs.Finished.{Table, AreFinishedBelow, HasNoUnit, IsFinished}

-- at the package's number, and nowhere else
pub unit_at : (w : Workspace) (table : Table) (p : List ℕ) (unit : PackageUnit) (n : ℕ) → slice_get (package_paths w) n ≡ Some p →
    IsFinished w table p unit → slice_get table n ≡ Some (Some unit)
unit_at w table p unit n at f = subst (λ (k : ℕ). slice_get table k ≡ Some (Some unit)) (one_number (package_paths w) (paths_sorted w) f.0 n p f.1 at) f.2

-- ---- a number below which each is finished
pub finished_more : (table : Table) (n : ℕ) (unit : PackageUnit) → slice_get table n ≡ Some (Some unit) → AreFinishedBelow table n →
    AreFinishedBelow table (n + 1)
finished_more table n unit at below i lt = elim (cases_lt i n) [
  | inl before ↦ below i before
  | inr last ↦ (let is : n ≡ i = omega (arith, lt, last) in (unit, subst (λ (k : ℕ). slice_get table k ≡ Some (Some unit)) is at))
]

-- the package is finished whose unit was put in
pub finished_here : (table : Table) (n : ℕ) (unit : PackageUnit) → n < length table → slice_get (set table n (Some unit)) n ≡ Some (Some unit)
finished_here table n unit within =
    slice_get-get_or (set table n (Some unit)) n None (omega (arith, within, length-set table n (Some unit)))
    ∙ ap Some (get_or-set_same table n (Some unit) None within)

-- one more finished unit takes none away
pub finished_still : (table : Table) (n front : ℕ) (unit : PackageUnit) → n < length table → AreFinishedBelow table front →
    AreFinishedBelow (set table n (Some unit)) front
finished_still table n front unit within below i lt =
    let r = below i lt in
    let inside : i < length table = slice_get_within table i (Some r.0) r.1 in
    let long : i < length (set table n (Some unit)) = omega (arith, inside, length-set table n (Some unit)) in
    let here = slice_get-get_or (set table n (Some unit)) i None long in
    elim (cases_eq i n) [
      | inl same ↦ (unit, subst (λ (k : ℕ). slice_get (set table n (Some unit)) k ≡ Some (Some unit)) (sym same) (finished_here table n unit within))
      | inr apart ↦ (r.0, here ∙ ap Some (get_or-set_other table n i (Some unit) None apart) ∙ sym (slice_get-get_or table i None inside) ∙ r.1)
    ]

-- ---- where none is finished
pub none_empty : HasNoUnit []
none_empty i unit is = absurd (none-some (Some unit) is)

pub none_more : (table : Table) → HasNoUnit table → HasNoUnit (table ++ None ∷ [])
none_more table none i unit is =
    let nothing : Option PackageUnit = None in
    let more : Table = table ++ nothing ∷ [] in
    let within : i < length more = slice_get_within more i (Some unit) is in
    let got : get_or more i nothing ≡ Some unit = get_or_from_slice_get more i (Some unit) nothing is in
    elim (cases_lt i (length table)) [
      | inl before ↦ none i unit (slice_get-get_or table i nothing before ∙ ap Some (sym (get_or_append_left table (nothing ∷ []) nothing i before) ∙ got))
      | inr last ↦ (
          let end : length table ≡ i = omega (arith, within, last, length-append table (nothing ∷ [])) in
          none-some unit (sym (get_or_push table nothing nothing i end) ∙ got))
    ]
