-- The units that a change carries over, by the marks of the packages of closures.
use Rattle.std.proofs.Common.{◌≡◌, ℕ, ◌+◌, ◌<◌, ◌≤◌, Bool, List, [], ◌∷◌, ◌++◌, length, get_or, Option, Some, None, slice_get, sym, ap, subst, ◌∙◌, ⊎_elim}
use Rattle.std.proofs.Common.{arith, length-append}
use Rattle.std.specs.List.{Contains}
use Rattle.std.proofs.lemmas.Bool.{cases_lt}
use Rattle.std.proofs.lemmas.List.{get_or_append_left, get_or_push}
use Rattle.std.proofs.lemmas.Option.{none-some, same_Some, slice_get_within, slice_get-get_or, get_or_from_slice_get}
use Rattle.base_files.specs.Packages.{package_paths}
use Rattle.base_files.specs.Workspace.{Workspace}
use Rattle.workspace_graph.specs.Graphs.{OfPackage}
use Rattle.workspace_graph.specs.Search.{IsMarked}
use Rattle.workspace_graph.proofs.ByPath.{number, at_contains}
use Rattle.workspace_check.specs.Closures.{HasSameClosure}
use Rattle.workspace_check.proofs.Local.{same_back}
use Rattle.build_unit.specs.declared.unit.Unit.{Unit as PackageUnit}
use Rattle.build_carry.specs.Finished.{Table, HasNoUnit, IsFinished}
use Rattle.build_carry.proofs.FinishedUnits.{unit_at}
use Rattle.build_carry.specs.Carried.{IsCarried}
use Rattle.build_carry.specs.Changes.{MarkChanges, KeepsUnit}
use Rattle.build_carry.proofs.ClosureTexts.{same_texts, same_files, package_there}

-- the closures have the same texts just where the package is marked neither before nor after
module _ (v w : Workspace) (p : List ℕ) (before after : List Bool) (old new : ℕ) (a : MarkChanges v w before) (b : MarkChanges w v after)
    (at : slice_get (package_paths v) old ≡ Some p) (then : slice_get (package_paths w) new ≡ Some p) where
  pub same_by_marks : (IsMarked before old → ⊥) → (IsMarked after new → ⊥) → HasSameClosure v w p
  same_by_marks there here = same_texts v w p (a.same old p at there) (b.same new p then here)

  pub before_unmarked : HasSameClosure v w p → IsMarked before old → ⊥
  before_unmarked same marked = a.changed old p at marked (same_files v w p same)

  pub after_unmarked : HasSameClosure v w p → IsMarked after new → ⊥
  after_unmarked same marked = b.changed new p then marked (same_files w v p (same_back v w p same))

-- ---- the unit of one package
module _ (v : Workspace) (old : Table) (w : Workspace) (p : List ℕ) where
  pub keeps_none : ((unit : PackageUnit) → IsFinished v old p unit → HasSameClosure v w p → ⊥) → KeepsUnit v old w p None
  keeps_none never unit = (
    λ is. absurd (none-some unit is),
    λ both. absurd (never unit both.0 both.1),
  )

  -- the package is none before
  pub unknown_before : (Contains (package_paths v) p → ⊥) → KeepsUnit v old w p None
  unknown_before none = keeps_none (λ unit finished same. none (at_contains v finished.0 p finished.1))

  module _ (n : ℕ) (at : slice_get (package_paths v) n ≡ Some p) where
    pub unfinished_before : ((unit : PackageUnit) → slice_get old n ≡ Some (Some unit) → ⊥) → KeepsUnit v old w p None
    unfinished_before none = keeps_none (λ unit finished same. none unit (unit_at v old p unit n at finished))

    pub not_same : (OfPackage v n (HasSameClosure v w) → ⊥) → KeepsUnit v old w p None
    not_same other = keeps_none (λ unit finished same. other (λ q there. subst (HasSameClosure v w) (same_Some p q (sym at ∙ there)) same))

    pub keeps_some : (unit : PackageUnit) → slice_get old n ≡ Some (Some unit) → OfPackage v n (HasSameClosure v w) → KeepsUnit v old w p (Some unit)
    keeps_some unit has same other = (
      λ is. ((n, at, subst (λ u. slice_get old n ≡ Some (Some u)) (same_Some unit other is) has), same p at),
      λ both. sym (same_Some _ _ (sym (unit_at v old p other n at both.0) ∙ has)),
    )

-- ---- where none is finished before, none is afterwards
pub carried_none : (v : Workspace) (old : Table) (w : Workspace) (new : Table) → HasNoUnit old → length new ≡ length (package_paths w) → HasNoUnit new →
    IsCarried v old w new
carried_none v old w new none size empty = record {
  size = size;
  each = λ p unit. (
    λ finished. absurd (empty finished.0 unit finished.2),
    λ both. absurd (none both.0.0 unit both.0.2),
  );
}

-- ---- one package after another
pub record AreKept (v : Workspace) (old : Table) (w : Workspace) (count : ℕ) (units : Table) : Type 0 where
  pub size : length units ≡ count
  pub each : (i : ℕ) (p : List ℕ) → i < count → slice_get (package_paths w) i ≡ Some p → KeepsUnit v old w p (get_or units i None)

module _ (v : Workspace) (old : Table) (w : Workspace) where
  pub kept_more : (count : ℕ) (units : Table) (found : Option PackageUnit) → OfPackage w count (λ p. KeepsUnit v old w p found) →
      AreKept v old w count units → AreKept v old w (count + 1) (units ++ found ∷ [])
  kept_more count units found is so = record {
    size = length_more;
    each = λ i p below at. ⊎_elim
        (λ (before : i < count). subst (KeepsUnit v old w p) (sym (get_or_append_left units (found ∷ []) None i (omega (arith, so.size))))
        (so.each i p before at))
        (λ (last : count ≤ i).
        let same : i ≡ count = omega arith in
        subst (KeepsUnit v old w p) (sym (get_or_push units found None i (omega (arith, so.size))))
        (is p (subst (λ (k : ℕ). slice_get (package_paths w) k ≡ Some p) same at)))
        (cases_lt i count);
  }
    where
      length_more : length (units ++ found ∷ []) ≡ count + 1
      length_more = omega (arith, length-append units (found ∷ []), so.size)

  pub kept_all : (units : Table) → AreKept v old w (length (package_paths w)) units → IsCarried v old w units
  kept_all units so = record {
    size = so.size;
    each = λ p unit. (
      λ finished. (so.each finished.0 p (slice_get_within (package_paths w) finished.0 p finished.1) finished.1 unit).0
          (get_or_from_slice_get units finished.0 (Some unit) None finished.2),
      λ both.
          let n = number w p (package_there v w p (at_contains v both.0.0 p both.0.1) both.1) in
          let below = slice_get_within (package_paths w) n.0 p n.1 in
          let is = (so.each n.0 p below n.1 unit).1 both in
          (n.0, n.1, slice_get-get_or units n.0 None (omega (arith, so.size)) ∙ ap Some is),
    );
  }
