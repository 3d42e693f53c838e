-- The object of a package in a table of finished units: there is one at most, at the number of the package.
use Rattle.std.proofs.Common.{◌≡◌, ℕ, List, [], ◌∷◌, ◌++◌, length, inl, inr, Option, None, Some, Result, Ok, Err, slice_get, get_or, sym, ap, subst, ◌∙◌, arith}
use Rattle.std.proofs.Common.{length-append}
use Rattle.std.specs.Prelude.{Contains}
use Rattle.std.proofs.lemmas.Bool.{cases_lt}
use Rattle.std.proofs.lemmas.List.{get_or_append_left, get_or_push}
use Rattle.std.proofs.lemmas.Option.{get_or_from_slice_get, same_Some, slice_get-get_or, slice_get_within}
use Rattle.base_files.specs.Packages.{package_paths}
use Rattle.base_files.specs.Workspace.{Workspace}
use Rattle.workspace_graph.proofs.PackagePaths.{one_number, paths_sorted}
use Rattle.workspace_check.specs.declared.fault.FileFault.{FileFault}
use Rattle.build_unit.specs.Builds.{unit_result}
use Rattle.build_unit.specs.declared.unit.Unit.{Unit as PackageUnit}
use Rattle.build_carry.specs.Finished.{Table}
use Rattle.history_machine.specs.PathPlaces.{IsOnlyPlace}
use Rattle.history_machine.specs.declared.seen_state.SeenState.{SeenState}
use Rattle.history_machine.specs.declared.view.View.{View}
use Rattle.history_objects.specs.ComparedObjects.{AreComparedObjects, FindsObjectAt, FindsObjectIn, HadObject, HasChange, HasNoObjectIn}
use Rattle.history_objects.specs.ComparedObjects.{HasObjectAt, HasObjectIn, HasObjectNow, IsComparedObject}
use Rattle.history_objects.specs.declared.comparing.ComparedObject.{ComparedObject}
use Rattle.history_objects.specs.declared.comparing.ObjectChange.TheVariants.{Equal, Differs}

-- results that are equal have one text, and none has a text and a fault
one_text : (a b : List ℕ) (r s : Result (List ℕ) FileFault) → r ≡ Ok a → s ≡ Ok b → r ≡ s → a ≡ b
one_text a b r s e f g = cc

no_text : (f : FileFault) (b : List ℕ) (r s : Result (List ℕ) FileFault) → r ≡ Err f → s ≡ Ok b → r ≡ s → ⊥
no_text f b r s e h g = cc

-- ---- by the number of the package
module _ (table : Table) (n : ℕ) where
  pub none_at : ((unit : PackageUnit) → slice_get table n ≡ Some (Some unit) → ⊥) → FindsObjectAt table n None
  none_at none text h = none h.0 h.1

  module _ (unit : PackageUnit) (here : slice_get table n ≡ Some (Some unit)) where
    one_unit : (other : PackageUnit) → slice_get table n ≡ Some (Some other) → unit_result unit ≡ unit_result other
    one_unit other there =
        let both : Some unit ≡ Some other = same_Some (Some unit) (Some other) (sym here ∙ there) in
        ap unit_result (same_Some unit other both)

    pub object_there : (text : List ℕ) → unit_result unit ≡ Ok text → FindsObjectAt table n (Some text)
    object_there text e = ((unit, here, e), λ other h. one_text text other (unit_result unit) (unit_result h.0) e h.2 (one_unit h.0 h.1))

    pub fault_there : (fault : FileFault) → unit_result unit ≡ Err fault → FindsObjectAt table n None
    fault_there fault e text h = no_text fault text (unit_result unit) (unit_result h.0) e h.2 (one_unit h.0 h.1)

-- ---- by its path
module _ (paths : List (List ℕ)) (table : Table) (p : List ℕ) where
  pub object_nowhere : (Contains paths p → ⊥) → FindsObjectIn paths table p None
  object_nowhere none text h = none (h.0, slice_get_within paths h.0 p h.1, get_or_from_slice_get paths h.0 p p h.1)

  module _ (n : ℕ) (only : IsOnlyPlace paths p n) where
    moved : (text : List ℕ) → HasObjectIn paths table p text → HasObjectAt table n text
    moved text h = subst (λ (k : ℕ). HasObjectAt table k text) (only.1 h.0 h.1) h.2

    pub found_of : (found : Option (List ℕ)) → FindsObjectAt table n found → FindsObjectIn paths table p found
    found_of None none = λ text h. none text (moved text h)
    found_of (Some text) found = ((n, only.0, found.0), λ other h. found.1 other (moved other h))

-- the package of this number of a workspace has its path nowhere else
pub only_number : (w : Workspace) (n : ℕ) (p : List ℕ) → slice_get (package_paths w) n ≡ Some p → IsOnlyPlace (package_paths w) p n
only_number w n p at = (at, λ k there. one_number (package_paths w) (paths_sorted w) k n p there at)

-- ---- how the object of a package that has one compares
module _ (before : SeenState) (view : View) (p text : List ℕ) (now : HasObjectNow view p text) where
  pub differs_from_none : HasNoObjectIn before.packages before.finished p → HasChange before view p Differs
  differs_from_none none = (text, now, none text)

  module _ (old : List ℕ) (found : FindsObjectIn before.packages before.finished p (Some old)) where
    pub equals : old ≡ text → HasChange before view p Equal
    equals same = (text, now, subst (HadObject before p) same found.0)

    pub differs : (old ≡ text → ⊥) → HasChange before view p Differs
    differs other = (text, now, λ h. other (found.1 text h))

-- one package more
pub compared_more : (before : SeenState) (view : View) (list : List ComparedObject) (one : ComparedObject) → AreComparedObjects before view list →
    ((p : List ℕ) → slice_get (package_paths view.snapshot.files) (length list) ≡ Some p → IsComparedObject before view p one) →
    AreComparedObjects before view (list ++ one ∷ [])
compared_more before view list one are here n p other at got =
    let more : List ComparedObject = list ++ one ∷ [] in
    let within = slice_get_within more n other got in
    let is : get_or more n one ≡ other = get_or_from_slice_get more n other one got in
    elim (cases_lt n (length list)) [
      | inl lt ↦ are n p other at (slice_get-get_or list n one lt ∙ ap Some (sym (get_or_append_left list (one ∷ []) one n lt) ∙ is))
      | inr ge ↦ (
          let end : length list ≡ n = omega (arith, within, ge, length-append list (one ∷ [])) in
          subst (λ (o : ComparedObject). IsComparedObject before view p o) (sym (get_or_push list one one n end) ∙ is)
          (here p (subst (λ (k : ℕ). slice_get (package_paths view.snapshot.files) k ≡ Some p) (sym end) at)))
    ]
