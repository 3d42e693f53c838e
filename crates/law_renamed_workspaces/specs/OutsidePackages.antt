-- Packages in which the rename of fields or methods turns no use of a member: those that reach no package of these. If the new name is not
-- exported, so are those other packages that use none of them.
use Rattle.std.specs.Prelude.{ℕ, ◌≡◌, false, List, Contains}
use Rattle.base_files.specs.declared.place.Place.{Place}
use Rattle.base_edits.specs.RevisionsOfEdits.{revision_of}
use Rattle.types_declared.specs.Laid.{is_exported}
use Rattle.types_declared.specs.Package.{Package}
use Rattle.refs_binding.specs.Binding.{BindsByMember}
use Rattle.refs_binding.specs.Identifiers.{BeginsAt}
use Rattle.refs_binding.specs.Uses.{IsCheckedPackage}
use Rattle.refs_binding.specs.declared.declaration.Declaration.{Declaration}
use Rattle.refs_places.specs.Homes.{IsHomeOfSome}
use Rattle.refactor_conflict.specs.Staying.{StaysByMember, StaysByName}
use Rattle.law_renamed_workspaces.specs.Reaching.{ReachesPath}
use Rattle.law_renamed_workspaces.specs.MemberRenames.{OfMemberRenames}

-- In a package that reaches no package of a renamed member, each use and each declaring identifier of a member stays bound.
abbrev pub OtherPackagesKeepMembers : Type 0
OtherPackagesKeepMembers = OfMemberRenames (λ w known d set name s. (x : Package) → IsCheckedPackage w known x →
    ((home : List ℕ) → IsHomeOfSome set home → ReachesPath w x.path home → ⊥) → (u : ℕ) (place : Place) → BeginsAt x place.path place.offset u →
    StaysByMember w known (revision_of w s) x u place × StaysByName w known (revision_of w s) x u place)

-- If the new name is not exported, so it is in each package that has no renamed member, unless one is used there.
abbrev pub UnexportedNamesStayAtHome : Type 0
UnexportedNamesStayAtHome = OfMemberRenames (λ w known d set name s. is_exported name ≡ false → (x : Package) → IsCheckedPackage w known x →
    (IsHomeOfSome set x.path → ⊥) → ((e : Declaration) → Contains set e → (u : ℕ) → BindsByMember x u e → ⊥) → (u : ℕ) (place : Place) →
    BeginsAt x place.path place.offset u →
    StaysByMember w known (revision_of w s) x u place × StaysByName w known (revision_of w s) x u place)
