-- The packages that wait to be built, by their numbers.
use Rattle.std.proofs.Common.{◌≡◌, ℕ, ◌<◌, ◌≤◌, Bool, true, false, not, List, [], length, get_or, Some, slice_get, refl, sym, subst, ◌∙◌, arith}
use Rattle.std.proofs.lemmas.Bool.{false≢true}
use Rattle.std.proofs.lemmas.Option.{same_Some, slice_get_within, slice_get-get_or}
use Rattle.base_files.specs.Packages.{package_paths}
use Rattle.workspace_graph.specs.Graphs.{OfPackage}
use Rattle.workspace_graph.proofs.ByPath.{at_contains, number}
use Rattle.build_unit.specs.Jobs.{JobsOut, IsTakenInVisit}
use Rattle.build_unit.specs.declared.unit.Unit.{Unit as PackageUnit}
use Rattle.build_carry.proofs.FinishedUnits.{unit_at}
use Rattle.history_machine.specs.State.{State}
use Rattle.history_machine.specs.Waiting.{IsWaiting, IsFirstWaiting}

module _ (state : State) (out : JobsOut) (visit : ℕ) where
  pub waits : (n : ℕ) (p : List ℕ) → slice_get (package_paths state.files) n ≡ Some p →
      ((unit : PackageUnit) → slice_get state.finished n ≡ Some (Some unit) → ⊥) → (IsTakenInVisit out visit p → ⊥) →
      OfPackage state.files n (IsWaiting state out visit)
  waits n p at none untaken q there =
      subst (IsWaiting state out visit) (same_Some p q (sym at ∙ there)) (record {
        is_package = at_contains state.files n p at;
        unfinished = λ unit f. none unit (unit_at state.files state.finished p unit n at f);
        untaken = untaken;
      })

  pub first_is : (n : ℕ) → ((i : ℕ) (q : List ℕ) → i < n → slice_get (package_paths state.files) i ≡ Some q → IsWaiting state out visit q → ⊥) →
      OfPackage state.files n (IsWaiting state out visit) → OfPackage state.files n (IsFirstWaiting state out visit)
  first_is n before waiting p at = record { waiting = waiting p at; number = n; at = at; first = before }

  pub none_waits : (n : ℕ) → length (package_paths state.files) ≤ n →
      ((i : ℕ) (q : List ℕ) → i < n → slice_get (package_paths state.files) i ≡ Some q → IsWaiting state out visit q → ⊥) → (p : List ℕ) →
      IsWaiting state out visit p → ⊥
  none_waits n all before p waiting =
      let k = number state.files p waiting.is_package in
      let within : k.0 < length (package_paths state.files) = slice_get_within (package_paths state.files) k.0 p k.1 in
      before k.0 p (omega arith) k.1 waiting

  pub not_waiting : (n : ℕ) (unit : PackageUnit) → n < length (package_paths state.files) → slice_get state.finished n ≡ Some (Some unit) →
      OfPackage state.files n (IsWaiting state out visit) → ⊥
  not_waiting n unit below has all =
      let p : List ℕ = get_or (package_paths state.files) n [] in
      let at : slice_get (package_paths state.files) n ≡ Some p = slice_get-get_or (package_paths state.files) n [] below in
      (all p at).unfinished unit (n, at, has)

pub free_is : (b : Bool) → not b ≡ true → b ≡ true → ⊥
free_is true is taken = false≢true is
free_is false is taken = false≢true taken

pub untaken_is : (b : Bool) → (b ≡ true → ⊥) → not b ≡ true
untaken_is true none = absurd (none refl)
untaken_is false none = refl
