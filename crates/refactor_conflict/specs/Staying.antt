-- Identifiers that stay bound: after the change each is bound to what its declaration has become, in the way in which it was bound before.
-- Known: the packages of the workspace before the change.
use Rattle.std.specs.Prelude.{ℕ, ◌≡◌}
use Rattle.std.specs.declared.cmp.Ordering.TheVariants.{Less}
use Rattle.base_files.specs.Workspace.{Workspace}
use Rattle.base_files.specs.declared.place.Place.{Place}
use Rattle.types_declared.specs.Package.{Package}
use Rattle.workspace_check.specs.Verdicts.{Verdicts}
use Rattle.refs_binding.specs.declared.declaration.Declaration.{Declaration}
use Rattle.refs_binding.specs.Binding.{BindsByScope, BindsQualified, BindsByMember, DeclaresMember}
use Rattle.refs_binding.specs.Identifiers.{BeginsAt}
use Rattle.refs_binding.specs.Places.{place_cmp}
use Rattle.refs_binding.specs.Uses.{IsCheckedPackage}
use Rattle.base_edits.specs.Revisions.{Revision}
use Rattle.refactor_conflict.specs.MembersAfter.{CountsAfter}
use Rattle.refactor_conflict.specs.BoundAfter.{HasBecome, IsBoundByScopes, IsBoundByPackage, IsBoundByMember}

-- The identifier that was bound to `old` is bound after the change to the declaration that `old` has become. `E` holds of what it is bound
-- to.
pub record StaysBound (Becomes : Declaration → Declaration → Type 0) (E : Declaration → Type 0) (old : Declaration) : Type 0 where
  pub declaration : Declaration
  pub bound : E declaration
  pub become : Becomes old declaration

-- If scopes bind the identifier `u`, which begins at the place, the scopes after the change bind it to what its declaration has become.
abbrev pub StaysByScope : Workspace → Verdicts → Revision → Package → ℕ → Place → Type 0
StaysByScope w known r p u place = (old : Declaration) → BindsByScope p u old → StaysBound (HasBecome w known r) (IsBoundByScopes r place) old

-- If the identifier `u` is the selector of a qualified identifier, it is bound after the change to what its declaration has become.
abbrev pub StaysByPackage : Workspace → Verdicts → Revision → Package → ℕ → Place → Type 0
StaysByPackage w known r p u place =
    (old : Declaration) → BindsQualified (IsCheckedPackage w known) p u old → StaysBound (HasBecome w known r) (IsBoundByPackage w r place p u) old

-- If the identifier `u` is a use of a member, its new name selects this member of the same type after the change.
abbrev pub StaysByMember : Workspace → Verdicts → Revision → Package → ℕ → Place → Type 0
StaysByMember w known r p u place = (old : Declaration) (was : BindsByMember p u old) → IsBoundByMember (IsCheckedPackage w known) r place p u old was old

-- If the identifier `u` declares a field or method, this member counts under its new name.
abbrev pub StaysByName : Workspace → Verdicts → Revision → Package → ℕ → Place → Type 0
StaysByName w known r p u place = (old : Declaration) → DeclaresMember p u old → CountsAfter (IsCheckedPackage w known) r old

-- The identifier `u`, which begins at the place, stays bound in each way in which it was bound.
pub record Stays (w : Workspace) (known : Verdicts) (r : Revision) (p : Package) (u : ℕ) (place : Place) : Type 0 where
  pub by_scope : StaysByScope w known r p u place
  pub by_package : StaysByPackage w known r p u place
  pub by_member : StaysByMember w known r p u place
  pub by_name : StaysByName w known r p u place

-- `K` holds of each identifier of the package that begins at the place.
abbrev pub HoldsOfEachAt : Package → (ℕ → Place → Type 0) → Place → Type 0
HoldsOfEachAt p K place = (u : ℕ) → BeginsAt p place.path place.offset u → K u place

-- Each identifier of the package `p` that begins at the place stays bound.
abbrev pub StaysIn : Workspace → Verdicts → Revision → Package → Place → Type 0
StaysIn w known r p place = HoldsOfEachAt p (Stays w known r p) place

-- Each identifier that begins at the place, in any package, stays bound.
abbrev pub StaysAt : Workspace → Verdicts → Revision → Place → Type 0
StaysAt w known r place = (p : Package) → IsCheckedPackage w known p → StaysIn w known r p place

-- The change loses and captures no identifier of the workspace.
abbrev pub NoneIsLost : Workspace → Verdicts → Revision → Type 0
NoneIsLost w known r = (place : Place) → StaysAt w known r place

-- The change loses and captures no identifier before the place `end`.
abbrev pub NoneIsLostBefore : Workspace → Verdicts → Revision → Place → Type 0
NoneIsLostBefore w known r end = (place : Place) → place_cmp place end ≡ Less → StaysAt w known r place

-- The parts of `StaysIn` as they are found: first the identifiers that scopes bind and the selectors of qualified identifiers, next the
-- member uses, last the declaring identifiers of members.

-- The identifier `u`, which begins at the place, stays bound by scopes and as the selector of a qualified identifier.
pub record NameStays (w : Workspace) (known : Verdicts) (r : Revision) (p : Package) (u : ℕ) (place : Place) : Type 0 where
  pub by_scope : StaysByScope w known r p u place
  pub by_package : StaysByPackage w known r p u place

-- Each identifier of the package `p` that begins at the place stays bound by scopes and as the selector of a qualified identifier.
abbrev pub NamesStayIn : Workspace → Verdicts → Revision → Package → Place → Type 0
NamesStayIn w known r p place = HoldsOfEachAt p (NameStays w known r p) place

-- Each member use of the package `p` that begins at the place stays bound.
abbrev pub MembersStayIn : Workspace → Verdicts → Revision → Package → Place → Type 0
MembersStayIn w known r p place = HoldsOfEachAt p (StaysByMember w known r p) place

-- Each member of the package `p` that is declared at the place counts under its new name.
abbrev pub DeclaringNamesStayIn : Workspace → Verdicts → Revision → Package → Place → Type 0
DeclaringNamesStayIn w known r p place = HoldsOfEachAt p (StaysByName w known r p) place
