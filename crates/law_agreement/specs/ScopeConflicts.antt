-- The conflicts of a rename of a declaration of scopes: those of its package's scopes, and those behind its package's name.
use Rattle.std.specs.Prelude.{ℕ, ◌≡◌, List, Option, None, Some, if◌then◌else◌}
use Rattle.std.specs.Ordering.{is_lt}
use Rattle.std.specs.declared.cmp.Ordering.TheVariants.{Less}
use Rattle.base_files.specs.declared.place.Place.{Place}
use Rattle.base_edits.specs.RevisionsOfEdits.{revision_of}
use Rattle.go_scope.specs.Bindings.{IsPackageLevel}
use Rattle.law_rename.specs.Renaming.{HasNoConflictAt, WouldCapture, WouldLose}
use Rattle.types_declared.specs.Package.{Package}
use Rattle.refs_binding.specs.declared.declaration.Declaration.{Declaration}
use Rattle.refs_binding.specs.declared.declaration.Declaration.TheVariants.{Declared}
use Rattle.refs_binding.specs.Identifiers.{BeginsAt}
use Rattle.refs_binding.specs.Places.{place_cmp}
use Rattle.refs_binding.specs.Uses.{IsCheckedPackage}
use Rattle.refactor_conflict.specs.Conflicts.{IsCapturer, IsConflict, IsFirstConflict}
use Rattle.refactor_conflict.specs.Staying.{StaysAt}
use Rattle.refactor_conflict.specs.declared.conflict.Capturer.{Capturer}
use Rattle.refactor_conflict.specs.declared.conflict.Conflict.{Conflict}
use Rattle.law_agreement.specs.ConflictsByTables.{IsOwnNumber}
use Rattle.law_agreement.specs.Behind.{TurnsQualified}
use Rattle.law_agreement.specs.ScopeRenames.{OfRenamesIn}

-- In the declaring package

-- No identifier of the package `p` that begins at the place has a conflict by the old names.
abbrev pub HasNoOwnConflict : Package → (n : ℕ) → (name : List ℕ) → Place → Type 0
HasNoOwnConflict p n name place = (u : ℕ) → BeginsAt p place.path place.offset u → HasNoConflictAt p.layout p.names n name u

-- A capturer names the declaration of this number of the package.
pub record NamesNumber (Known : Package → Type 0) (p : Package) (c : ℕ) (by : Capturer) : Type 0 where
  pub declaration : Declaration
  pub numbered : IsOwnNumber p c declaration
  pub told : IsCapturer Known declaration by

-- The identifier `u` has this conflict by the old names.
abbrev pub IsOwnConflictBy : (Known : Package → Type 0) → Package → (n : ℕ) → (name : List ℕ) → (u : ℕ) → Option Capturer → Type 0
IsOwnConflictBy Known p n name u None = WouldLose p.layout p.names n name u
IsOwnConflictBy Known p n name u (Some by) = (c : ℕ) × (WouldCapture p.layout p.names n name u c × NamesNumber Known p c by)

-- An identifier of the package `p` begins at the place of the conflict and has it by the old names.
pub record IsOwnConflict (Known : Package → Type 0) (p : Package) (n : ℕ) (name : List ℕ) (c : Conflict) : Type 0 where
  pub user : ℕ
  pub begins : BeginsAt p c.used.path c.used.offset user
  pub has : IsOwnConflictBy Known p n name user c.by

-- Behind the declaring package's name

-- No identifier behind the package's name that begins at the place is lost or captured by the old names.
abbrev pub HasNoConflictBehind : (Known : Package → Type 0) → Package → (n : ℕ) → (name : List ℕ) → Place → Type 0
HasNoConflictBehind Known p n name place = (x : Package) → Known x → (u : ℕ) → BeginsAt x place.path place.offset u → (by : Option ℕ) →
    TurnsQualified Known p n name x u by → ⊥

-- A capturer behind the package's name as it is told by its number, and by its place; or that there is none.
abbrev pub IsSameCapturer : (Known : Package → Type 0) → Package → Option ℕ → Option Capturer → Type 0
IsSameCapturer Known p None None = Unit {0}
IsSameCapturer Known p None (Some by) = ⊥
IsSameCapturer Known p (Some c) None = ⊥
IsSameCapturer Known p (Some c) (Some by) = IsCapturer Known (Declared p.path c) by

-- An identifier behind the package's name begins at the place of the conflict and has it by the old names.
pub record IsConflictBehind (Known : Package → Type 0) (p : Package) (n : ℕ) (name : List ℕ) (c : Conflict) : Type 0 where
  pub used_in : Package
  pub is_package : Known used_in
  pub user : ℕ
  pub begins : BeginsAt used_in c.used.path c.used.offset user
  pub by : Option ℕ
  pub turns : TurnsQualified Known p n name used_in user by
  pub told : IsSameCapturer Known p by c.by

-- Together

-- Where there is no conflict of both kinds, each identifier stays bound.
abbrev pub NoConflictStays : Type 0
NoConflictStays = OfRenamesIn (λ w known p n name s. (place : Place) →
    HasNoOwnConflict p n name place → HasNoConflictBehind (IsCheckedPackage w known) p n name place → StaysAt w known (revision_of w s) place)

-- Each conflict by the old names is one of the change.
abbrev pub OwnConflictsAreConflicts : Type 0
OwnConflictsAreConflicts = OfRenamesIn (λ w known p n name s. (c : Conflict) →
    IsOwnConflict (IsCheckedPackage w known) p n name c → IsConflict w known (revision_of w s) c)

abbrev pub ConflictsBehindAreConflicts : Type 0
ConflictsBehindAreConflicts = OfRenamesIn (λ w known p n name s. (c : Conflict) →
    IsConflictBehind (IsCheckedPackage w known) p n name c → IsConflict w known (revision_of w s) c)

-- The first of them

-- The first conflict by place of which `C` holds, or that there is none. `Free` holds of the places without conflict before it.
abbrev pub IsFirstBy : (C : Conflict → Type 0) → (Free : Place → Type 0) → Option Conflict → Type 0
IsFirstBy C Free None = (place : Place) → Free place
IsFirstBy C Free (Some c) = C c × ((place : Place) → place_cmp place c.used ≡ Less → Free place)

abbrev pub FirstOwnConflict : (Known : Package → Type 0) → Package → (n : ℕ) → (name : List ℕ) → Option Conflict → Type 0
FirstOwnConflict Known p n name told = IsFirstBy (IsOwnConflict Known p n name) (HasNoOwnConflict p n name) told

abbrev pub FirstConflictBehind : (Known : Package → Type 0) → Package → (n : ℕ) → (name : List ℕ) → Option Conflict → Type 0
FirstConflictBehind Known p n name told = IsFirstBy (IsConflictBehind Known p n name) (HasNoConflictBehind Known p n name) told

-- The one of two conflicts whose place comes first.
abbrev pub earlier_conflict : Option Conflict → Option Conflict → Option Conflict
earlier_conflict None b = b
earlier_conflict (Some a) None = Some a
earlier_conflict (Some a) (Some b) = if is_lt (place_cmp b.used a.used) then Some b else Some a

-- The earlier one of the first conflict of the scopes and the first behind the package's name is the first of the change.
abbrev pub FirstConflictsAreTold : Type 0
FirstConflictsAreTold = OfRenamesIn (λ w known p n name s. (own behind : Option Conflict) → FirstOwnConflict (IsCheckedPackage w known) p n name own →
    FirstConflictBehind (IsCheckedPackage w known) p n name behind → IsFirstConflict w known (revision_of w s) (earlier_conflict own behind))

-- A declaration that is not package-level has no conflict behind the package's name.
abbrev pub LocalRenamesTurnNoneBehind : Type 0
LocalRenamesTurnNoneBehind = OfRenamesIn (λ w known p n name s. (IsPackageLevel p.layout n → ⊥) → FirstConflictBehind (IsCheckedPackage w known) p n name None)
