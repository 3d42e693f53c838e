-- The declaration of the identifier at a byte.
use Rattle.std.proofs.Common.{ℕ, ◌≡◌, ◌<◌, inl, inr, List, [], sym, subst, ◌∙◌, arith}
use Rattle.std.specs.Prelude.{Some, Contains, Result, Ok, Err, slice_get, ◌↔◌}
use Rattle.std.specs.List.Sorted.{IsStrictlySortedBy}
use Rattle.std.proofs.lemmas.Option.{same_Some}
use Rattle.base_files.specs.Packages.{package_paths}
use Rattle.base_files.specs.Path.{folder}
use Rattle.base_files.specs.Workspace.{Workspace}
use Rattle.base_files.specs.declared.place.Place.{Place}
use Rattle.base_files.specs.declared.refusal.Refusal.{Refusal}
use Rattle.base_files.specs.declared.refusal.Refusal.TheVariants as refusal
use Rattle.types_declared.specs.Package.{Package}
use Rattle.workspace_check.specs.Verdicts.{Verdicts, AreVerdicts}
use Rattle.refs_binding.specs.declared.declaration.Declaration.{Declaration}
use Rattle.refs_binding.specs.declared.place_key.PlaceKey.{PlaceKey}
use Rattle.refs_binding.specs.Identifiers.{HoldsByte}
use Rattle.refs_binding.specs.Places.{place_cmp}
use Rattle.refs_binding.specs.Steps.{AddsPlaces, place_of}
use Rattle.refs_binding.specs.Uses.{IsFilePackage, IsUseOf, ListsUses, AnswersUsesAt, HasDeclaration}
use Rattle.refs_binding.specs.Workspaces.{IsPackageAt, FindsDeclaration, FindsDeclarationIn, FindsDeclarationAt, ListsFound}
use Rattle.refs_binding.proofs.Units.{one_package}

-- the package of a folder is asked
pub asked : (w : Workspace) (known : Verdicts) (n : ℕ) (p : Package) (path : List ℕ) → IsPackageAt w known n p →
    slice_get (package_paths w) n ≡ Some (folder path) → IsFilePackage w known path p
asked w known n p path is at = record { is_package = is.is_package; of_folder = same_Some p.path (folder path) (sym is.has_number ∙ at) }

-- a folder that is that of no package
pub no_folder : (w : Workspace) (known : Verdicts) (path : List ℕ) → (Contains (package_paths w) (folder path) → ⊥) → (p : Package) →
    IsFilePackage w known path p → ⊥
no_folder w known path none p is = none (subst (Contains (package_paths w)) is.of_folder is.is_package.of_workspace)

module _ (w : Workspace) (known : Verdicts) (path : List ℕ) (offset : ℕ) (p : Package) (is : IsFilePackage w known path p) where
  one_asked : (q : Package) → IsFilePackage w known path q → q ≡ p
  one_asked q h = one_package w known q p h.is_package is.is_package (h.of_folder ∙ sym is.of_folder)

  pub refused : (r : Refusal) → FindsDeclarationIn w known p path offset (Err r) → FindsDeclaration w known path offset (Err r)
  refused refusal.Memory h = h
  refused refusal.BadCommand h = absurd h
  refused refusal.BadPath h = absurd h
  refused refusal.NoFile h = absurd h
  refused refusal.TooLarge h = absurd h
  refused (refusal.Moved a) h = absurd h
  refused refusal.NothingToUndo h = absurd h
  refused refusal.NothingToRedo h = absurd h
  refused (refusal.Faulty a b) h = absurd h
  refused refusal.NoIdentifier h = λ q k u holds. h u (subst (λ (x : Package). HoldsByte x path offset u) (one_asked q k) holds)
  refused refusal.NotRenamable h = (p, (is, (h.0, (h.1.0, h.1.1))))
  refused refusal.BadName h = absurd h
  refused refusal.Same h = absurd h
  refused (refusal.Captured a b) h = absurd h
  refused (refusal.Lost a) h = absurd h
  refused refusal.NoPackage h = absurd h
  refused refusal.TargetTaken h = absurd h
  refused refusal.InsideItself h = absurd h
  refused refusal.JournalFull h = absurd h
  refused (refusal.Pending a) h = absurd h
  refused (refusal.Stale a) h = absurd h
  refused refusal.Already h = absurd h
  refused refusal.NoJob h = absurd h
  refused refusal.BodyShort h = absurd h
  refused (refusal.Coupled place) h = absurd h
  refused refusal.Disk h = absurd h

  pub found : (r : Result Declaration Refusal) → FindsDeclarationIn w known p path offset r → FindsDeclaration w known path offset r
  found (Ok d) h = record { asked_in = p; is_asked = is; number = h.0; at = h.1.0; bound = h.1.1 }
  found (Err r) h = refused r h

-- The declaration of the identifier at a byte, in the package of a number.

module _ (w : Workspace) (known : Verdicts) (n : ℕ) (path : List ℕ) (offset : ℕ) (p : Package) (is : IsPackageAt w known n p) where
  refused_in : (r : Refusal) → FindsDeclarationIn w known p path offset (Err r) → FindsDeclarationAt w known n path offset (Err r)
  refused_in refusal.Memory h = h
  refused_in refusal.BadCommand h = absurd h
  refused_in refusal.BadPath h = absurd h
  refused_in refusal.NoFile h = absurd h
  refused_in refusal.TooLarge h = absurd h
  refused_in (refusal.Moved a) h = absurd h
  refused_in refusal.NothingToUndo h = absurd h
  refused_in refusal.NothingToRedo h = absurd h
  refused_in (refusal.Faulty a b) h = absurd h
  refused_in refusal.NoIdentifier h = (p, (is, h))
  refused_in refusal.NotRenamable h = (p, (is, h))
  refused_in refusal.BadName h = absurd h
  refused_in refusal.Same h = absurd h
  refused_in (refusal.Captured a b) h = absurd h
  refused_in (refusal.Lost a) h = absurd h
  refused_in refusal.NoPackage h = absurd h
  refused_in refusal.TargetTaken h = absurd h
  refused_in refusal.InsideItself h = absurd h
  refused_in refusal.JournalFull h = absurd h
  refused_in (refusal.Pending a) h = absurd h
  refused_in (refusal.Stale a) h = absurd h
  refused_in refusal.Already h = absurd h
  refused_in refusal.NoJob h = absurd h
  refused_in refusal.BodyShort h = absurd h
  refused_in (refusal.Coupled place) h = absurd h
  refused_in refusal.Disk h = absurd h

  pub in_package : (r : Result Declaration Refusal) → FindsDeclarationIn w known p path offset r → FindsDeclarationAt w known n path offset r
  in_package (Ok d) h = (p, (is, h))
  in_package (Err r) h = refused_in r h

module _ (w : Workspace) (known : Verdicts) (n : ℕ) (path : List ℕ) (offset : ℕ) (at : slice_get (package_paths w) n ≡ Some (folder path)) where
  refused_at : (r : Refusal) → FindsDeclarationAt w known n path offset (Err r) → FindsDeclaration w known path offset (Err r)
  refused_at refusal.Memory h = h
  refused_at refusal.BadCommand h = absurd h.1.1
  refused_at refusal.BadPath h = absurd h.1.1
  refused_at refusal.NoFile h = absurd h.1.1
  refused_at refusal.TooLarge h = absurd h.1.1
  refused_at (refusal.Moved a) h = absurd h.1.1
  refused_at refusal.NothingToUndo h = absurd h.1.1
  refused_at refusal.NothingToRedo h = absurd h.1.1
  refused_at (refusal.Faulty a b) h = absurd h.1.1
  refused_at refusal.NoIdentifier h = refused w known path offset h.0 (asked w known n h.0 path h.1.0 at) refusal.NoIdentifier h.1.1
  refused_at refusal.NotRenamable h = refused w known path offset h.0 (asked w known n h.0 path h.1.0 at) refusal.NotRenamable h.1.1
  refused_at refusal.BadName h = absurd h.1.1
  refused_at refusal.Same h = absurd h.1.1
  refused_at (refusal.Captured a b) h = absurd h.1.1
  refused_at (refusal.Lost a) h = absurd h.1.1
  refused_at refusal.NoPackage h = absurd h.1.1
  refused_at refusal.TargetTaken h = absurd h.1.1
  refused_at refusal.InsideItself h = absurd h.1.1
  refused_at refusal.JournalFull h = absurd h.1.1
  refused_at (refusal.Pending a) h = absurd h.1.1
  refused_at (refusal.Stale a) h = absurd h.1.1
  refused_at refusal.Already h = absurd h.1.1
  refused_at refusal.NoJob h = absurd h.1.1
  refused_at refusal.BodyShort h = absurd h.1.1
  refused_at (refusal.Coupled place) h = absurd h.1.1
  refused_at refusal.Disk h = absurd h.1.1

  pub found_at : (r : Result Declaration Refusal) → FindsDeclarationAt w known n path offset r → FindsDeclaration w known path offset r
  found_at (Ok d) h = found w known path offset h.0 (asked w known n h.0 path h.1.0 at) (Ok d) h.1.1
  found_at (Err r) h = refused_at r h

-- why there are no uses

pub tells_refusal : (w : Workspace) (known : Verdicts) → AreVerdicts w known → (path : List ℕ) (offset : ℕ) (r : Refusal) →
    FindsDeclaration w known path offset (Err r) → AnswersUsesAt w path offset (Err r)
tells_refusal w known right path offset refusal.Memory h = h
tells_refusal w known right path offset refusal.BadCommand h = absurd h
tells_refusal w known right path offset refusal.BadPath h = absurd h
tells_refusal w known right path offset refusal.NoFile h = absurd h
tells_refusal w known right path offset refusal.TooLarge h = absurd h
tells_refusal w known right path offset (refusal.Moved a) h = absurd h
tells_refusal w known right path offset refusal.NothingToUndo h = absurd h
tells_refusal w known right path offset refusal.NothingToRedo h = absurd h
tells_refusal w known right path offset (refusal.Faulty a b) h = absurd h
tells_refusal w known right path offset refusal.NoIdentifier h = record { known = known; right = right; none = h }
tells_refusal w known right path offset refusal.NotRenamable h =
    record { known = known; right = right; asked_in = h.0; is_asked = h.1.0; number = h.1.1.0; at = h.1.1.1.0; unbound = h.1.1.1.1 }
tells_refusal w known right path offset refusal.BadName h = absurd h
tells_refusal w known right path offset refusal.Same h = absurd h
tells_refusal w known right path offset (refusal.Captured a b) h = absurd h
tells_refusal w known right path offset (refusal.Lost a) h = absurd h
tells_refusal w known right path offset refusal.NoPackage h = absurd h
tells_refusal w known right path offset refusal.TargetTaken h = absurd h
tells_refusal w known right path offset refusal.InsideItself h = absurd h
tells_refusal w known right path offset refusal.JournalFull h = absurd h
tells_refusal w known right path offset (refusal.Pending a) h = absurd h
tells_refusal w known right path offset (refusal.Stale a) h = absurd h
tells_refusal w known right path offset refusal.Already h = absurd h
tells_refusal w known right path offset refusal.NoJob h = absurd h
tells_refusal w known right path offset refusal.BodyShort h = absurd h
tells_refusal w known right path offset (refusal.Coupled place) h = absurd h
tells_refusal w known right path offset refusal.Disk h = absurd h

-- the list of uses

pub lists_uses : (w : Workspace) (known : Verdicts) → AreVerdicts w known → (path : List ℕ) (offset : ℕ) (d : Declaration) (places : List Place) →
    HasDeclaration w known path offset d → ListsFound w known d places →
    ListsUses w path offset places
lists_uses w known right path offset d places is h =
    record { known = known; right = right; declaration = d; is_asked = is; in_order = h.in_order; each = h.each }

abbrev spot_at : Place → PlaceKey
spot_at place = record { path = place.path; offset = place.offset }

-- the list of the places that were found
pub lists_found : (w : Workspace) (known : Verdicts) (d : Declaration) (places : List Place) (old found : List PlaceKey) → old ≡ [] →
    IsStrictlySortedBy place_cmp places →
    ((s : PlaceKey) → Contains places (place_of s) ↔ Contains found s) → AddsPlaces old found (IsUseOf w known d) → ListsFound w known d places
lists_found w known d places old found e up held added = record {
  in_order = up;
  each = λ place. (
    (λ h. elim (added.only (spot_at place) ((held (spot_at place)).0 h)) [
      | inl none ↦
          let some : Contains [] (spot_at place) = subst (λ l. Contains l (spot_at place)) e none in
          let lt : some.0 < 0 = some.1 in
          let z : ⊥ = omega arith in absurd z
      | inr q ↦ q
    ]),
    (λ h. (held (spot_at place)).1 (added.holds (spot_at place) h)),
  );
}

-- The uses of the identifier at a byte, from the package of its file's folder.
pub tells_uses : (w : Workspace) (known : Verdicts) → AreVerdicts w known → (path : List ℕ) (offset : ℕ) (p : Package) → IsFilePackage w known path p →
    (d : Declaration) (places : List Place) → FindsDeclarationIn w known p path offset (Ok d) → ListsFound w known d places →
    ListsUses w path offset places
tells_uses w known right path offset p is d places h = lists_uses w known right path offset d places (found w known path offset p is (Ok d) h)
