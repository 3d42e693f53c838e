-- The rename of a field or method leaves alone what is bound by scopes or behind a package's name.
use Rattle.std.specs.Prelude.{ℕ, ◌≡◌, ◌↔◌}
use Rattle.base_files.specs.Workspace.{Workspace}
use Rattle.base_files.specs.declared.place.Place.{Place}
use Rattle.base_edits.specs.Revisions.{Revision}
use Rattle.base_edits.specs.RevisionsOfEdits.{revision_of}
use Rattle.types_declared.specs.Package.{Package}
use Rattle.workspace_check.specs.Verdicts.{Verdicts}
use Rattle.refs_binding.specs.declared.declaration.Declaration.{Declaration}
use Rattle.refs_binding.specs.Binding.{BindsByScope}
use Rattle.refs_binding.specs.Identifiers.{BeginsAt}
use Rattle.refs_binding.specs.Uses.{IsCheckedPackage}
use Rattle.refactor_conflict.specs.Staying.{StaysAt, NameStays, MembersStayIn, DeclaringNamesStayIn}
use Rattle.law_renamed_workspaces.specs.Layouts.{IsRelaid}
use Rattle.law_renamed_workspaces.specs.OtherPackages.{KeepsExports}
use Rattle.law_renamed_workspaces.specs.MemberRenames.{OfMemberRenames}

-- The scopes of `q` bind the same identifiers to the same declarations as those of `x`, under the same names.
pub record BindsAlike (x q : Package) : Type 0 where
  pub bound : (u : ℕ) (d : Declaration) → BindsByScope q u d ↔ BindsByScope x u d
  pub named : (u : ℕ) (d : Declaration) → BindsByScope x u d → q.names u ≡ x.names u

-- So it is in every package, and each package exports what it exported.
abbrev pub ScopesAreKept : Type 0
ScopesAreKept = OfMemberRenames (λ w known d set name s. (x q : Package) → IsCheckedPackage w known x → IsRelaid (revision_of w s) x q →
    BindsAlike x q × KeepsExports x q)

-- So each identifier stays bound by scopes and as the selector of a qualified identifier.
abbrev pub MemberRenamesKeepScopes : Type 0
MemberRenamesKeepScopes = OfMemberRenames (λ w known d set name s. (x : Package) → IsCheckedPackage w known x →
    (u : ℕ) (place : Place) → BeginsAt x place.path place.offset u → NameStays w known (revision_of w s) x u place)

-- The uses of members and the declaring identifiers of members that begin at the place stay bound, in all packages.
abbrev pub MembersStayAt : Workspace → Verdicts → Revision → Place → Type 0
MembersStayAt w known r place = (x : Package) → IsCheckedPackage w known x → MembersStayIn w known r x place × DeclaringNamesStayIn w known r x place

-- Then each identifier there stays bound exactly where the uses and the declaring identifiers of members do.
abbrev pub MemberConflictsAreOfMembers : Type 0
MemberConflictsAreOfMembers = OfMemberRenames (λ w known d set name s. (place : Place) →
    StaysAt w known (revision_of w s) place ↔ MembersStayAt w known (revision_of w s) place)
