-- What the lemmas of this crate take as premises, besides the laws of crates below.
use Rattle.std.specs.Prelude.{ℕ, ◌≡◌, ◌⊎◌, List, []}
use Rattle.base_files.specs.Workspace.{Workspace}
use Rattle.base_files.specs.declared.place.Place.{Place}
use Rattle.base_edits.specs.EditSet.{FileChanges, edited}
use Rattle.base_edits.specs.RevisionsOfEdits.{revision_of}
use Rattle.types_declared.specs.Package.{Package}
use Rattle.workspace_check.specs.Verdicts.{Verdicts, AreVerdicts}
use Rattle.refs_binding.specs.declared.declaration.Declaration.{Declaration}
use Rattle.refs_binding.specs.Binding.{BindsByMember, DeclaresMember}
use Rattle.refs_binding.specs.Identifiers.{BeginsAt}
use Rattle.refs_binding.specs.Uses.{IsCheckedPackage, IsUseOf}
use Rattle.refs_places.specs.Identified.{IsIdentifierAt}
use Rattle.refactor_conflict.specs.Corresponding.{Corresponds}
use Rattle.refactor_preserve.specs.BoundToOne.{IsBoundToOne}
use Rattle.law_changed_types.specs.SameBindings.{IsBoundAlike}
use Rattle.refactor_conflict.specs.ScopedPackages.{IsScopedIn}
use Rattle.law_renamed_workspaces.specs.Layouts.{IsRelaid, AreSoundBelow}
use Rattle.law_renamed_workspaces.specs.Harmless.{IsHarmless}
use Rattle.law_renamed_workspaces.specs.Renames.{IsPlainRename}
use Rattle.law_renamed_workspaces.specs.MovedExports.{AreMovedBelow}
use Rattle.workspace_check.specs.FaultLists.{ListsFaults}
use Rattle.types_info.specs.QualifiedIdentifiers.{IsQualifiedByPath}
pub use Rattle.law_renamed_workspaces.specs.Apart.{MoveApart, DeclarationsMoveApart}
pub use Rattle.law_renamed_workspaces.specs.ScopedPackages.{HasMovedTokens, ScopedPackagesAreRelaid, DeclarationsHavePlaces, HasSameScopes}
pub use Rattle.law_renamed_workspaces.specs.ScopedPackages.{FaultlessPackagesAreScoped}
use Rattle.refactor_conflict.specs.Staying.{NoneIsLost}
use Rattle.refactor_preserve.specs.Preserved.{KeepsBindings, Preserves}
use Rattle.law_agreement.specs.Agreement.{KeepsSeenImplementing}
use Rattle.law_agreement.proofs.Afterwards.{KeepsMembers}

-- A plain rename keeps all bindings, and brings no fault.
pub record IsKeptRename (w : Workspace) (known : Verdicts) (d : Declaration) (name : List ℕ) (s : FileChanges) (after : Verdicts) : Type 0 where
  pub rename : IsPlainRename w known d name s
  pub right : AreVerdicts (edited s w) after
  pub sound : ListsFaults (edited s w) []
  pub kept : KeepsBindings w known (revision_of w s) after

-- Then the packages that a package builds on keep their names, and have no faults.
abbrev pub KeptAreSoundBelow : Type 0
KeptAreSoundBelow = (w : Workspace) (known : Verdicts) (d : Declaration) (name : List ℕ) (s : FileChanges) (after : Verdicts) →
    IsKeptRename w known d name s after → (path : List ℕ) → AreSoundBelow w known after path

-- By scopes each package is there, relaid, with its tokens moved.
abbrev pub KeptPackagesAreRelaid : Type 0
KeptPackagesAreRelaid = (w : Workspace) (known : Verdicts) (d : Declaration) (name : List ℕ) (s : FileChanges) (after : Verdicts) →
    IsKeptRename w known d name s after → (p : Package) → IsCheckedPackage w known p →
    (q : Package) × (IsScopedIn (edited s w) q × (IsRelaid (revision_of w s) p q × HasMovedTokens (revision_of w s) p q))

-- The selector of a qualified identifier does not become a use of a member.
abbrev pub SelectorsStayQualified : Type 0
SelectorsStayQualified = (w : Workspace) (known : Verdicts) (d : Declaration) (name : List ℕ) (s : FileChanges) (after : Verdicts) →
    IsKeptRename w known d name s after → (p q : Package) → IsCheckedPackage w known p → IsCheckedPackage (edited s w) after q → q.path ≡ p.path →
    (u : ℕ) (path : List ℕ) → IsQualifiedByPath p u path → (e : Declaration) → BindsByMember q u e → ⊥

-- Where the same types implement the same interfaces, uses of members stay bound, by the types of before and the new names. So do the names by
-- which members are declared.
abbrev pub KeptMembersStay : Type 0
KeptMembersStay = (w : Workspace) (known : Verdicts) (d : Declaration) (name : List ℕ) (s : FileChanges) (after : Verdicts) →
    IsKeptRename w known d name s after → KeepsSeenImplementing w known (revision_of w s) after → KeepsMembers w known (revision_of w s)

-- Where these stay, a plain rename that preserves bindings loses and captures no identifier.
abbrev pub PreservedByMembers : Type 0
PreservedByMembers = (w : Workspace) (known : Verdicts) (d : Declaration) (name : List ℕ) (s : FileChanges) → IsPlainRename w known d name s →
    (k : Preserves w (revision_of w s)) → (IsKeptRename w known d name s k.after → KeepsMembers w known (revision_of w s)) →
    NoneIsLost w known (revision_of w s)

-- A plain rename that is harmless brings no fault.
abbrev pub PlainRenamesBringNoFault : Type 0
PlainRenamesBringNoFault = (w : Workspace) (known : Verdicts) (d : Declaration) (name : List ℕ) (s : FileChanges) → IsPlainRename w known d name s →
    IsHarmless w known (revision_of w s) → ListsFaults (edited s w) []

-- A plain rename is harmless, and brings no fault.
pub record IsFreeRename (w : Workspace) (known : Verdicts) (d : Declaration) (name : List ℕ) (s : FileChanges) (after : Verdicts) : Type 0 where
  pub rename : IsPlainRename w known d name s
  pub right : AreVerdicts (edited s w) after
  pub sound : ListsFaults (edited s w) []
  pub harmless : IsHarmless w known (revision_of w s)

-- Then, of all that a package builds on, the export data have one other name at most, and no fault comes.
abbrev pub ExportsMoveBelow : Type 0
ExportsMoveBelow = (w : Workspace) (known : Verdicts) (d : Declaration) (name : List ℕ) (s : FileChanges) (after : Verdicts) →
    IsFreeRename w known d name s after → (path : List ℕ) → AreMovedBelow w known after path

-- Each package by scopes is one that is checked.
abbrev pub ScopedPackagesAreChecked : Type 0
ScopedPackagesAreChecked = (w : Workspace) (known : Verdicts) (d : Declaration) (name : List ℕ) (s : FileChanges) (after : Verdicts) →
    IsFreeRename w known d name s after → (o : Package) → IsScopedIn (edited s w) o →
    (q : Package) × (IsCheckedPackage (edited s w) after q × HasSameScopes o q)

-- Each package is there after the change, relaid and bound alike, with its tokens moved.
abbrev pub PackagesStayAlike : Type 0
PackagesStayAlike = (w : Workspace) (known : Verdicts) (d : Declaration) (name : List ℕ) (s : FileChanges) (after : Verdicts) →
    IsFreeRename w known d name s after → (p : Package) → IsCheckedPackage w known p →
    (q : Package) × (IsCheckedPackage (edited s w) after q × (IsRelaid (revision_of w s) p q × (IsBoundAlike p q × HasMovedTokens (revision_of w s) p q)))

-- A use of a member, and the name by which a member is declared, stays bound to what its declaration has become.
abbrev pub MembersStayBound : Type 0
MembersStayBound = (w : Workspace) (known : Verdicts) (d : Declaration) (name : List ℕ) (s : FileChanges) (after : Verdicts) →
    IsFreeRename w known d name s after → (p : Package) → IsCheckedPackage w known p → (u : ℕ) (place : Place) → BeginsAt p place.path place.offset u →
    (old : Declaration) → BindsByMember p u old ⊎ DeclaresMember p u old → IsBoundToOne (edited s w) after ((revision_of w s).moved place)
    (λ e. Corresponds (IsCheckedPackage w known) (IsCheckedPackage (edited s w) after) (revision_of w s).moved old e)

-- What is bound afterwards was bound.
abbrev pub UnboundStayUnbound : Type 0
UnboundStayUnbound = (w : Workspace) (known : Verdicts) (d : Declaration) (name : List ℕ) (s : FileChanges) (after : Verdicts) →
    IsFreeRename w known d name s after → (place : Place) (e : Declaration) → IsIdentifierAt w known place →
    IsUseOf (edited s w) after e ((revision_of w s).moved place) → (old : Declaration) × IsUseOf w known old place

-- Each workspace has right verdicts on its packages.
abbrev pub WorkspacesHaveVerdicts : Type 0
WorkspacesHaveVerdicts = (x : Workspace) → (known : Verdicts) × AreVerdicts x known

-- The name by which a member is declared begins at a place of some package.
pub record IsDeclaredByName (w : Workspace) (known : Verdicts) (d : Declaration) : Type 0 where
  pub inside : Package
  pub is_package : IsCheckedPackage w known inside
  pub user : ℕ
  pub place : Place
  pub begins : BeginsAt inside place.path place.offset user
  pub declares : DeclaresMember inside user d

-- In a workspace without faults a member that is used is declared by a name.
abbrev pub UsedMembersAreDeclared : Type 0
UsedMembersAreDeclared = (w : Workspace) → ListsFaults w [] → (known : Verdicts) → AreVerdicts w known → (p : Package) → IsCheckedPackage w known p →
    (u : ℕ) (d : Declaration) → BindsByMember p u d → IsDeclaredByName w known d
