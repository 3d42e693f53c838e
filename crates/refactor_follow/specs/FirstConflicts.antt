-- The first conflict of the renames of imports: of some imports of a package, of a package, and of some packages.
use Rattle.std.specs.Prelude.{ℕ, ◌≡◌, ◌<◌, List, Option, Some, slice_get}
use Rattle.base_files.specs.Workspace.{Workspace}
use Rattle.base_files.specs.declared.place.Place.{Place}
use Rattle.types_declared.specs.Package.{Package}
use Rattle.workspace_check.specs.Verdicts.{Verdicts}
use Rattle.refs_binding.specs.Uses.{IsCheckedPackage}
use Rattle.refs_binding.specs.Workspaces.{IsPackageAt}
use Rattle.refactor_conflict.specs.declared.conflict.Conflict.{Conflict}
use Rattle.law_agreement.specs.ScopeConflicts.{HasNoOwnConflict, IsFirstBy, IsOwnConflict}
use Rattle.refactor_follow.specs.ImportNames.{GetsName}

-- The rename of an import below the number `n` has this conflict.
pub record IsConflictBelow (Known : Package → Type 0) (p : Package) (path name : List ℕ) (n : ℕ) (c : Conflict) : Type 0 where
  pub import : ℕ
  pub below : import < n
  pub gets : GetsName p path name import
  pub conflict : IsOwnConflict Known p import name c

-- The rename of no import below the number `n` has a conflict at the place.
abbrev pub IsFreeBelow : Package → (path name : List ℕ) → (n : ℕ) → Place → Type 0
IsFreeBelow p path name n place = (d : ℕ) → d < n → GetsName p path name d → HasNoOwnConflict p d name place

-- The first conflict of the renames of imports below the number `n`.
abbrev pub IsFirstOfImports : (Known : Package → Type 0) → Package → (path name : List ℕ) → (n : ℕ) → Option Conflict → Type 0
IsFirstOfImports Known p path name n told = IsFirstBy (IsConflictBelow Known p path name n) (IsFreeBelow p path name n) told

-- The first conflict of the renames of all imports of the package of this number.
pub record IsFirstAt (w : Workspace) (known : Verdicts) (path name : List ℕ) (number : ℕ) (told : Option Conflict) : Type 0 where
  pub inside : Package
  pub is_package : IsPackageAt w known number inside
  pub first : IsFirstOfImports (IsCheckedPackage w known) inside path name inside.size told

-- The conflict is one of the first `n` of these packages, which are given by their numbers.
pub record IsConflictAmong (w : Workspace) (known : Verdicts) (path name : List ℕ) (numbers : List ℕ) (n : ℕ) (c : Conflict) : Type 0 where
  pub index : ℕ
  pub below : index < n
  pub number : ℕ
  pub has : slice_get numbers index ≡ Some number
  pub inside : Package
  pub is_package : IsPackageAt w known number inside
  pub conflict : IsConflictBelow (IsCheckedPackage w known) inside path name inside.size c

-- The first `n` of these packages have no conflict at the place.
abbrev pub IsFreeAmong : Workspace → Verdicts → (path name : List ℕ) → (numbers : List ℕ) → (n : ℕ) → Place → Type 0
IsFreeAmong w known path name numbers n place = (i number : ℕ) → i < n → slice_get numbers i ≡ Some number → (p : Package) →
    IsPackageAt w known number p → IsFreeBelow p path name p.size place

-- The first conflict of the first `n` of these packages.
abbrev pub IsFirstAmong : Workspace → Verdicts → (path name : List ℕ) → (numbers : List ℕ) → (n : ℕ) → Option Conflict → Type 0
IsFirstAmong w known path name numbers n told =
    IsFirstBy (IsConflictAmong w known path name numbers n) (IsFreeAmong w known path name numbers n) told
