-- Identifiers that a change loses or captures, and the first of them. Known: the packages of the workspace before the change.
use Rattle.std.specs.Prelude.{ℕ, ◌≡◌, ◌⊎◌, ⊤, List, Option, Some, None, MatchOption, slice_get}
use Rattle.std.specs.declared.cmp.Ordering.TheVariants.{Less}
use Rattle.base_files.specs.Workspace.{Workspace}
use Rattle.base_files.specs.declared.place.Place.{Place}
use Rattle.go_scope.specs.declared.model.Position.{Position}
use Rattle.types_expr.specs.declared.symbol.Symbol.{Symbol}
use Rattle.types_expr.specs.Judge.{MemberUse}
use Rattle.types_expr.specs.World.{Definition}
use Rattle.types_declared.specs.Package.{Package}
use Rattle.workspace_check.specs.Verdicts.{Verdicts}
use Rattle.refs_binding.specs.declared.declaration.Declaration.{Declaration}
use Rattle.refs_binding.specs.Binding.{BindsByScope, BindsQualified, BindsByMember, DeclaresMember}
use Rattle.refs_binding.specs.Identifiers.{BeginsAt}
use Rattle.refs_binding.specs.Places.{place_cmp}
use Rattle.refs_binding.specs.Members.{IsMemberUseOf, IsMemberUseAmong}
use Rattle.refs_binding.specs.Steps.{AtToken}
use Rattle.refs_binding.specs.Uses.{IsCheckedPackage}
use Rattle.base_edits.specs.Revisions.{Revision}
use Rattle.refs_binding.specs.DeclaringPlaces.{IsDeclaredAt}
use Rattle.refactor_conflict.specs.MembersAfter.{CountsAfter}
use Rattle.refactor_conflict.specs.BoundAfter.{HasBecome, IsBoundByScopes, IsBoundByPackage, IsBoundByMember, SelectsAfter}
use Rattle.refactor_conflict.specs.Staying.{NoneIsLost, NoneIsLostBefore}
use Rattle.refactor_conflict.specs.declared.conflict.Capturer.{Capturer}
use Rattle.refactor_conflict.specs.declared.conflict.Capturer.TheVariants.{Universe, At}
use Rattle.refactor_conflict.specs.declared.conflict.Conflict.{Conflict}

-- How a conflict names the declaration that captures: by its place, or as `Universe` where it is predeclared and has no place.
abbrev pub IsCapturer : (Package → Type 0) → Declaration → Capturer → Type 0
IsCapturer Known d Universe = (place : Place) → IsDeclaredAt Known d place → ⊥
IsCapturer Known d (At place) = IsDeclaredAt Known d place

-- The conflict of an identifier that was bound to `old` and that, after the change, is bound to the declaration of which `E` holds.
--
-- Lost, with no capturer: no declaration of the workspace before has become the one that the identifier is bound to.
--
--   // package b: renaming F to f loses the selector of a.F, since package a doesn't export f
--   import "a"
--   func g() int { return a.F() }
--
-- Captured: another declaration `c` than `old` has become the one that the identifier is bound to.
--
--   // renaming n to total captures the n in the body: the parameter total shadows it
--   var n int
--   func f(total int) int { return n + total }
pub data LostOrCaptured (Becomes : Declaration → Declaration → Type 0) (Known : Package → Type 0) (E : Declaration → Type 0) (old : Declaration) : Option
    Capturer → Type 0 where
  is_lost : ((e c : Declaration) → E e → Becomes c e → ⊥) → LostOrCaptured Becomes Known E old None
  is_captured : {by : Capturer} (e c : Declaration) → E e → Becomes c e → IsCapturer Known c by → ((d : Declaration) → E d → Becomes old d → ⊥) →
      LostOrCaptured Becomes Known E old (Some by)

-- After the change the identifier, which was bound to the field or method `old`, selects another member, which `by` names.
pub record IsCapturedMember (Known : Package → Type 0) (E : Declaration → Type 0) (old : Declaration) (by : Capturer) : Type 0 where
  pub declaration : Declaration
  pub bound : E declaration
  pub other : E old → ⊥
  pub told : IsCapturer Known declaration by

-- The conflict of an identifier that was bound to the field or method `old`. After the change it selects the member of which `E` holds.
--
-- Lost, with no capturer: the type has no member of the new name that the package sees.
--
--   // package b: renaming the field X of package a's struct T to x loses the X of t.X
--   func g(t a.T) int { return t.X }
--
-- Captured: the type has another member of the new name.
--
--   // renaming y to x captures the y of t.y: of two fields of one name the first counts
--   type T struct { x int; y int }
--   func f(t T) int { return t.y }
abbrev pub LosesMember : (Known : Package → Type 0) → (Declaration → Type 0) → Declaration → Option Capturer → Type 0
LosesMember Known E old None = (e : Declaration) → E e → ⊥
LosesMember Known E old (Some by) = IsCapturedMember Known E old by

-- The change alters what the identifier `u` of the package `p` is bound to: by scopes, as a qualified identifier, as a member that is used,
-- or as the declaring identifier of a member. A declaring identifier is lost where its field or method does not count under its new name.
-- It is never captured.
--
--   // renaming y to x loses the declaring identifier y: of two fields of one name the first counts
--   type T struct { x int; y int }
pub data ChangesBinding (w : Workspace) (known : Verdicts) (r : Revision) (p : Package) (u : ℕ) (c : Conflict) : Type 0 where
  by_scope : (old : Declaration) → BindsByScope p u old → LostOrCaptured (HasBecome w known r) (IsCheckedPackage w known) (IsBoundByScopes r c.used) old c.by →
      ChangesBinding w known r p u c
  by_package : (old : Declaration) → BindsQualified (IsCheckedPackage w known) p u old →
      LostOrCaptured (HasBecome w known r) (IsCheckedPackage w known) (IsBoundByPackage w r c.used p u) old c.by → ChangesBinding w known r p u c
  by_member : (old : Declaration) (was : BindsByMember p u old) →
      LosesMember (IsCheckedPackage w known) (IsBoundByMember (IsCheckedPackage w known) r c.used p u old was) old c.by → ChangesBinding w known r p u c
  by_name : (old : Declaration) → DeclaresMember p u old → (CountsAfter (IsCheckedPackage w known) r old → ⊥) → c.by ≡ None → ChangesBinding w known r p u c

-- An identifier of the package `p` begins at the place of the conflict, and the change alters what it is bound to.
pub record IsConflictIn (w : Workspace) (known : Verdicts) (r : Revision) (p : Package) (c : Conflict) : Type 0 where
  pub user : ℕ
  pub begins : BeginsAt p c.used.path c.used.offset user
  pub turned : ChangesBinding w known r p user c

-- An identifier of some package of the workspace begins at the place of the conflict, and the change alters what it is bound to.
pub record IsConflict (w : Workspace) (known : Verdicts) (r : Revision) (c : Conflict) : Type 0 where
  pub used_in : Package
  pub is_package : IsCheckedPackage w known used_in
  pub conflict : IsConflictIn w known r used_in c

-- The first identifier, by path and offset, that the change loses or captures, or `None` where it loses and captures none.
abbrev pub IsFirstConflict : Workspace → Verdicts → Revision → Option Conflict → Type 0
IsFirstConflict w known r told = MatchOption told (NoneIsLost w known r) (λ c. IsConflict w known r c × NoneIsLostBefore w known r c.used)

-- The place comes before the place of the first conflict found so far. Every place does where none is found.
abbrev pub IsPlaceBefore : Option Conflict → Place → Type 0
IsPlaceBefore None place = ⊤
IsPlaceBefore (Some c) place = place_cmp place c.used ≡ Less

-- The first conflict found so far stays `old`, or becomes an earlier conflict of which `P` holds.
abbrev pub Takes : (Conflict → Type 0) → Option Conflict → Option Conflict → Type 0
Takes P old new = (new ≡ old) ⊎ ((c : Conflict) × ((new ≡ Some c) × (P c × IsPlaceBefore old c.used)))

-- `K` holds of each place before the first conflict found so far, and of every place where none is found.
abbrev pub HoldsBefore : (Place → Type 0) → Option Conflict → Type 0
HoldsBefore K first = (place : Place) → IsPlaceBefore first place → K place

-- The conflict has this place and this capturer.
abbrev pub IsConflictBy : Place → Option Capturer → Conflict → Type 0
IsConflictBy used by c = (c.used ≡ used) × (c.by ≡ by)

-- The conflict of the identifier at `used`, which was bound to the field or method `old`. After the change it selects the member of which
-- `E` holds.
abbrev pub IsOtherMember : (Known : Package → Type 0) → (Declaration → Type 0) → Place → Declaration → Conflict → Type 0
IsOtherMember Known E used old c = (c.used ≡ used) × LosesMember Known E old c.by

-- The conflict of the member use at the token `at`, which was bound to `old`. `E` gives the member after the change for the place where the
-- token begins.
abbrev pub IsOtherAt : (Known : Package → Type 0) → (Place → Declaration → Type 0) → Package → Position → Declaration → Conflict → Type 0
IsOtherAt Known E p at old c = AtToken p at c.used × LosesMember Known (E c.used) old c.by

-- The member that a member use of a file selects after the change, by the type definitions that the package sees.
abbrev pub UsedAfter : (Known : Package → Type 0) → Revision → (Symbol → Definition) → Package → (file : ℕ) → MemberUse → Place → Declaration → Type 0
UsedAfter Known r definitions p file found = SelectsAfter Known r definitions p (record { file = file; index = found.place }) found.before

-- The member use at the place selects the same field or method before and after the change.
abbrev pub UseStays : (Known : Package → Type 0) → Revision → (Symbol → Definition) → Package → (file : ℕ) → MemberUse → Place → Type 0
UseStays Known r definitions p file found place = (old : Declaration) → IsMemberUseOf definitions p file old found place →
    UsedAfter Known r definitions p file found place old

-- Each member use of a file that is at the place selects the same field or method before and after the change.
abbrev pub UsesStay : (Known : Package → Type 0) → Revision → (Symbol → Definition) → Package → (file : ℕ) → List MemberUse → Place → Type 0
UsesStay Known r definitions p file uses place = (k : ℕ) (found : MemberUse) → slice_get uses k ≡ Some found → UseStays Known r definitions p file found place

-- The conflict of one member use of a file.
pub record IsMemberConflict (Known : Package → Type 0) (r : Revision) (definitions : Symbol → Definition) (p : Package) (file : ℕ) (found : MemberUse)
    (c : Conflict) : Type 0 where
  pub old : Declaration
  pub is_use : IsMemberUseOf definitions p file old found c.used
  pub tells : LosesMember Known (UsedAfter Known r definitions p file found c.used) old c.by

-- The conflict of some member use of a file.
pub record IsMemberConflictIn (Known : Package → Type 0) (r : Revision) (definitions : Symbol → Definition) (p : Package) (file : ℕ)
    (uses : List MemberUse) (c : Conflict) : Type 0 where
  pub old : Declaration
  pub is_use : IsMemberUseAmong definitions p file old uses c.used
  pub tells : LosesMember Known (UsedAfter Known r definitions p file is_use.1.found c.used) old c.by
