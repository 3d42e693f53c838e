-- What a rename does to identifiers behind the name of the declaring package, told by the old names: `N` in `q.N`, where `q` names that
-- package. Scopes bind none of these.
use Rattle.std.specs.Prelude.{ℕ, ◌≡◌, ◌<◌, ◌↔◌, false, List, Option, None, Some}
use Rattle.base_files.specs.declared.place.Place.{Place}
use Rattle.base_edits.specs.RevisionsOfEdits.{revision_of}
use Rattle.go_scope.specs.Bindings.{Layout, Names, IsPackageLevel}
use Rattle.law_rename.specs.Seen.{IsExportedAs}
use Rattle.types_declared.specs.Laid.{is_exported}
use Rattle.types_declared.specs.Package.{Package}
use Rattle.refs_binding.specs.declared.declaration.Declaration.TheVariants.{Declared}
use Rattle.refs_binding.specs.Binding.{BindsQualified}
use Rattle.refs_binding.specs.Identifiers.{BeginsAt}
use Rattle.refs_binding.specs.Uses.{IsCheckedPackage}
use Rattle.refactor_conflict.specs.BoundAfter.{HasBecome, IsBoundByPackage}
use Rattle.refactor_conflict.specs.Conflicts.{IsCapturer, LostOrCaptured}
use Rattle.refactor_conflict.specs.Staying.{StaysBound, StaysByPackage}
use Rattle.refactor_conflict.specs.declared.conflict.Capturer.{Capturer}
use Rattle.law_agreement.specs.ScopeRenames.{OfRenamesIn}

-- By the old names alone: with `n` renamed to `name`, an identifier behind the package's name that was bound to `old` is captured by the
-- declaration of this number. Where there is none, it is lost.
--
--   // package a
--   func F() {}
--   func G() {}
--
--   // package b: renaming F to f loses a.F; renaming F to G captures a.G, since F comes before G
--   import "a"
--   func g() { a.F(); a.G() }
pub data TurnsBehind (l : Layout) (names : Names) (n : ℕ) (name : List ℕ) : (old : ℕ) → Option ℕ → Type 0 where
  -- The identifier is bound to `n`, and the new name is not exported.
  hidden : is_exported name ≡ false → TurnsBehind l names n name n None
  -- The identifier is bound to `n`, and an earlier declaration that is exported has the new name.
  preceded : {e : ℕ} → IsPackageLevel l n → IsExportedAs l names name e → e < n → TurnsBehind l names n name n (Some e)
  -- The identifier is bound to an exported declaration of the new name, and `n` is an earlier package-level one.
  repeated : {e : ℕ} → IsPackageLevel l n → IsExportedAs l names name e → n < e → TurnsBehind l names n name e (Some n)

-- The same, with the capturer named by its place.
abbrev pub TakenBehind : (Known : Package → Type 0) → Package → (n : ℕ) → (name : List ℕ) → (old : ℕ) → Option Capturer → Type 0
TakenBehind Known p n name old None = TurnsBehind p.layout p.names n name old None
TakenBehind Known p n name old (Some by) =
    (c : ℕ) × (TurnsBehind p.layout p.names n name old (Some c) × IsCapturer Known (Declared p.path c) by)

-- That tells exactly which identifiers behind the package's name are lost or captured.
abbrev pub ConflictsBehindAreTold : Type 0
ConflictsBehindAreTold = OfRenamesIn (λ w known p n name s. (x : Package) → IsCheckedPackage w known x →
    (u : ℕ) (place : Place) → BeginsAt x place.path place.offset u → (old : ℕ) → BindsQualified (IsCheckedPackage w known) x u (Declared p.path old) →
    (by : Option Capturer) → LostOrCaptured (HasBecome w known (revision_of w s)) (IsCheckedPackage w known)
    (IsBoundByPackage w (revision_of w s) place x u) (Declared p.path old) by ↔ TakenBehind (IsCheckedPackage w known) p n name old by)

-- The identifier `u` of the package `x` is lost or captured behind the name of the package `p`, as the old names tell.
pub record TurnsQualified (Known : Package → Type 0) (p : Package) (n : ℕ) (name : List ℕ) (x : Package) (u : ℕ) (by : Option ℕ) : Type 0 where
  pub old : ℕ
  pub was : BindsQualified Known x u (Declared p.path old)
  pub turns : TurnsBehind p.layout p.names n name old by

-- What is bound behind the name of another package stays bound.
abbrev pub OtherNamesBehindStay : Type 0
OtherNamesBehindStay = OfRenamesIn (λ w known p n name s. (x : Package) → IsCheckedPackage w known x → (u : ℕ) (place : Place) →
    BeginsAt x place.path place.offset u → (path : List ℕ) (d : ℕ) → (path ≡ p.path → ⊥) → BindsQualified (IsCheckedPackage w known) x u (Declared path d) →
    StaysBound (HasBecome w known (revision_of w s)) (IsBoundByPackage w (revision_of w s) place x u) (Declared path d))

-- So an identifier that is neither lost nor captured stays bound behind each name.
abbrev pub NamesBehindStay : Type 0
NamesBehindStay = OfRenamesIn (λ w known p n name s. (x : Package) → IsCheckedPackage w known x →
    (u : ℕ) (place : Place) → BeginsAt x place.path place.offset u → ((by : Option ℕ) → TurnsQualified (IsCheckedPackage w known) p n name x u by → ⊥) →
    StaysByPackage w known (revision_of w s) x u place)
