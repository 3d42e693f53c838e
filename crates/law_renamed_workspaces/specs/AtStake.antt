-- Which uses and declaring identifiers of members the rename of fields or methods can lose or capture: those of the renamed members, and those
-- of members that have the new name already.
use Rattle.std.specs.Prelude.{ℕ, ◌≡◌, ◌⊎◌, ◌↔◌, List, Contains}
use Rattle.std.specs.declared.cmp.Ordering.TheVariants.{Less}
use Rattle.base_files.specs.Workspace.{Workspace}
use Rattle.base_files.specs.declared.place.Place.{Place}
use Rattle.base_edits.specs.Revisions.{Revision}
use Rattle.base_edits.specs.RevisionsOfEdits.{revision_of}
use Rattle.types_declared.specs.Package.{Package}
use Rattle.workspace_check.specs.Verdicts.{Verdicts}
use Rattle.refs_binding.specs.declared.declaration.Declaration.{Declaration}
use Rattle.refs_binding.specs.Binding.{BindsByMember, DeclaresMember}
use Rattle.refs_binding.specs.Identifiers.{BeginsAt}
use Rattle.refs_binding.specs.Places.{place_cmp}
use Rattle.refs_binding.specs.Uses.{IsCheckedPackage}
use Rattle.refactor_conflict.specs.MembersAfter.{CountsAfter}
use Rattle.refactor_conflict.specs.BoundAfter.{IsBoundByMember}
use Rattle.refactor_conflict.specs.Staying.{HoldsOfEachAt, StaysAt, NoneIsLost, NoneIsLostBefore}
use Rattle.law_renamed_workspaces.specs.MemberRenames.{OfMemberRenames}
use Rattle.law_renamed_workspaces.specs.NamesAfterwards.{spelled_there}

-- The identifier `u` names the member `e`. This is one of the renamed members, or `u` is spelled as the new name.
abbrev pub IsAtStake : (set : List Declaration) → List ℕ → Package → ℕ → Declaration → Type 0
IsAtStake set name x u e = Contains set e ⊎ (spelled_there x u ≡ name)

-- If the identifier `u` is a use of a member at stake, its new name selects this member of the same type. If it declares one, this member
-- counts under its new name.
pub record StakeStays (w : Workspace) (known : Verdicts) (r : Revision) (set : List Declaration) (name : List ℕ) (x : Package) (u : ℕ) (place : Place) :
    Type 0 where
  pub used : (old : Declaration) (was : BindsByMember x u old) → IsAtStake set name x u old → IsBoundByMember (IsCheckedPackage w known) r place x u old was old
  pub declared : (old : Declaration) → DeclaresMember x u old → IsAtStake set name x u old → CountsAfter (IsCheckedPackage w known) r old

-- That is so of each identifier that begins at the place, in any package.
abbrev pub StakesStayAt : Workspace → Verdicts → Revision → (set : List Declaration) → List ℕ → Place → Type 0
StakesStayAt w known r set name place = (x : Package) → IsCheckedPackage w known x → HoldsOfEachAt x (StakeStays w known r set name x) place

-- The other uses of members stay bound, and the other declaring identifiers of members count.
pub record OthersStay (w : Workspace) (known : Verdicts) (r : Revision) (set : List Declaration) (name : List ℕ) (x : Package) (u : ℕ) (place : Place) :
    Type 0 where
  pub used : (old : Declaration) (was : BindsByMember x u old) → (IsAtStake set name x u old → ⊥) →
      IsBoundByMember (IsCheckedPackage w known) r place x u old was old
  pub declared : (old : Declaration) → DeclaresMember x u old → (IsAtStake set name x u old → ⊥) → CountsAfter (IsCheckedPackage w known) r old

abbrev pub OtherMembersStay : Type 0
OtherMembersStay = OfMemberRenames (λ w known d set name s. (x : Package) → IsCheckedPackage w known x → (u : ℕ) (place : Place) →
    BeginsAt x place.path place.offset u → OthersStay w known (revision_of w s) set name x u place)

-- So all identifiers at a place stay bound exactly where those at stake do.
abbrev pub StakesDecide : Type 0
StakesDecide = OfMemberRenames (λ w known d set name s. (place : Place) →
    StaysAt w known (revision_of w s) place ↔ StakesStayAt w known (revision_of w s) set name place)

-- All identifiers at stake before the place `end` stay bound.
abbrev pub StakesStayBefore : Workspace → Verdicts → Revision → (set : List Declaration) → List ℕ → Place → Type 0
StakesStayBefore w known r set name end = (place : Place) → place_cmp place end ≡ Less → StakesStayAt w known r set name place

-- All identifiers at stake stay bound.
abbrev pub StakesStay : Workspace → Verdicts → Revision → (set : List Declaration) → List ℕ → Type 0
StakesStay w known r set name = (place : Place) → StakesStayAt w known r set name place

-- So the first conflict of the workspace is the first one among the identifiers at stake.
abbrev pub FirstMemberConflict : Type 0
FirstMemberConflict = OfMemberRenames (λ w known d set name s.
    ((end : Place) → NoneIsLostBefore w known (revision_of w s) end ↔ StakesStayBefore w known (revision_of w s) set name end) ×
    (NoneIsLost w known (revision_of w s) ↔ StakesStay w known (revision_of w s) set name))
