-- The rename of fields or methods, by the old names: what has the new name after it, and what it leaves alone.
use Rattle.std.specs.Prelude.{ℕ, ◌≡◌, ◌⊎◌, ◌↔◌, List, Some, Contains, map, slice_get}
use Rattle.base_files.specs.Workspace.{Workspace}
use Rattle.base_files.specs.declared.place.Place.{Place}
use Rattle.base_edits.specs.EditSet.{FileChanges}
use Rattle.base_edits.specs.Revisions.{Revision}
use Rattle.base_edits.specs.RevisionsOfEdits.{revision_of}
use Rattle.go_scope.specs.Named.{name_value}
use Rattle.types_declared.specs.Package.{Package, PlacedFunction, package_functions, symbol_in, spelled}
use Rattle.types_declared.specs.Definitions.{PlacedField, package_fields}
use Rattle.types_members.specs.MethodsView.{IsOwner}
use Rattle.workspace_graph.specs.Search.{IsMarked}
use Rattle.workspace_check.specs.Verdicts.{Verdicts}
use Rattle.refs_binding.specs.declared.declaration.Declaration.{Declaration}
use Rattle.refs_binding.specs.declared.declaration.Declaration.TheVariants.{Predeclared, Declared, Field, Method}
use Rattle.refs_binding.specs.Binding.{BindsByMember, DeclaresMember}
use Rattle.refs_binding.specs.DeclaringPlaces.{InHomePackage}
use Rattle.refs_binding.specs.Identifiers.{BeginsAt}
use Rattle.refs_binding.specs.Uses.{IsCheckedPackage}
use Rattle.refs_binding.specs.Workspaces.{known_in, IsPackageAt}
use Rattle.refs_uses.specs.MemberNames.{IsNameFound}
use Rattle.refactor_conflict.specs.NamesAfter.{IsFieldAfter, IsMethodAfter}
use Rattle.refactor_conflict.specs.MembersAfter.{CountsAfter}
use Rattle.refactor_conflict.specs.MembersFound.{IsRankFound}
use Rattle.refactor_conflict.specs.BoundAfter.{IsBoundByMember}
use Rattle.refactor_conflict.specs.Staying.{MembersStayIn, DeclaringNamesStayIn}
use Rattle.law_renamed_workspaces.specs.NamesAfterwards.{spelled_there}
use Rattle.law_renamed_workspaces.specs.AtStake.{IsAtStake}
use Rattle.refactor_members.specs.declared.member_rename.MemberRename.{MemberRename}
use Rattle.refactor_members.specs.declared.member_rename.RenamedMember.{RenamedMember}

-- The field of this rank is in the struct that the type definition writes. It is one of the renamed members, or has the new name already.
pub record IsFieldOfNewName (set : List Declaration) (name : List ℕ) (x : Package) (definition rank : ℕ) : Type 0 where
  pub field : PlacedField
  pub has_rank : slice_get (package_fields x) rank ≡ Some field
  pub of_struct : field.definition ≡ definition
  pub named : Contains set (Field (symbol_in x rank)) ⊎ (spelled x field.file field.name ≡ name)

-- The function of this rank is a method of the type definition. It is one of the renamed members, or has the new name already.
pub record IsMethodNamed (set : List Declaration) (name : List ℕ) (x : Package) (definition rank : ℕ) : Type 0 where
  pub method : PlacedFunction
  pub has_rank : slice_get (package_functions x) rank ≡ Some method
  pub of_type : IsOwner x method definition
  pub named : Contains set (Method (symbol_in x rank)) ⊎ (spelled x method.file method.function.name ≡ name)

-- The field of this rank is in the struct that the type definition writes.
pub record IsFieldOfDefinition (x : Package) (rank definition : ℕ) : Type 0 where
  pub field : PlacedField
  pub has_rank : slice_get (package_fields x) rank ≡ Some field
  pub of_struct : field.definition ≡ definition

-- The function of this rank is a method of the type definition.
pub record IsMethodOfDefinition (x : Package) (rank definition : ℕ) : Type 0 where
  pub method : PlacedFunction
  pub has_rank : slice_get (package_functions x) rank ≡ Some method
  pub of_type : IsOwner x method definition

-- The type definition of this rank, in the package `x` of the field or method, has it.
abbrev pub IsDefinitionIn : Package → Declaration → (definition : ℕ) → Type 0
IsDefinitionIn x (Predeclared n) definition = ⊥
IsDefinitionIn x (Declared path n) definition = ⊥
IsDefinitionIn x (Field s) definition = IsFieldOfDefinition x s.rank definition
IsDefinitionIn x (Method s) definition = IsMethodOfDefinition x s.rank definition

-- The type definition of this rank, in the package of the field or method, has it.
abbrev pub IsDefinitionOf : (Package → Type 0) → Declaration → (definition : ℕ) → Type 0
IsDefinitionOf Known d definition = InHomePackage Known d (λ x. IsDefinitionIn x d definition)

-- What a rename of the fields and methods of the set to `name` does to members. Just those have the name after it that had it, and those of
-- the set. A use of one of these has the name after it. Uses and declaring identifiers of other members stay.
pub record RenamesMember (w : Workspace) (known : Verdicts) (r : Revision) (set : List Declaration) (name : List ℕ) : Type 0 where
  pub fields : (x : Package) → IsCheckedPackage w known x → (definition rank : ℕ) → IsFieldAfter r x definition name rank ↔ IsFieldOfNewName set name x
      definition rank
  pub methods : (x : Package) → IsCheckedPackage w known x → (definition rank : ℕ) → IsMethodAfter r x definition name rank ↔ IsMethodNamed set name x
      definition rank
  pub called : (x : Package) → IsCheckedPackage w known x → (u : ℕ) (place : Place) → BeginsAt x place.path place.offset u → (old : Declaration) →
      BindsByMember x u old → IsAtStake set name x u old → r.called place (spelled_there x u) ≡ name
  pub used : (x : Package) → IsCheckedPackage w known x → (u : ℕ) (place : Place) → BeginsAt x place.path place.offset u → (old : Declaration)
      (was : BindsByMember x u old) → (IsAtStake set name x u old → ⊥) → IsBoundByMember (IsCheckedPackage w known) r place x u old was old
  pub declared : (x : Package) → IsCheckedPackage w known x → (u : ℕ) (place : Place) → BeginsAt x place.path place.offset u → (old : Declaration) →
      DeclaresMember x u old → (Contains set old → ⊥) → (spelled x (x.layout.place u).file (x.layout.place u).index ≡ name → ⊥) →
      CountsAfter (IsCheckedPackage w known) r old

-- The workspace before the rename.
abbrev pub workspace_before : MemberRename → Workspace
workspace_before m = m.workspace.now.graph

-- Its findings.
abbrev pub verdicts_in : MemberRename → Verdicts
verdicts_in m = known_in m.workspace.now.findings

-- Its packages.
abbrev pub packages_before : MemberRename → Package → Type 0
packages_before m = IsCheckedPackage (workspace_before m) (verdicts_in m)

-- The fields and methods that are renamed.
abbrev pub renamed_members : MemberRename → List Declaration
renamed_members m = map (λ (x : RenamedMember). x.declaration.now) m.members.now

-- The members are those of the set, each with its type definition.
pub record AreMembersOf (Known : Package → Type 0) (set : List Declaration) (members : List RenamedMember) : Type 0 where
  pub same : map (λ (x : RenamedMember). x.declaration.now) members ≡ set
  pub definition : (x : RenamedMember) → Contains members x → IsRankFound (IsDefinitionOf Known x.declaration.now) x.definition

-- Two of the set that are fields, or methods, of one type definition are the same one.
pub record StandApart (Known : Package → Type 0) (set : List Declaration) : Type 0 where
  pub fields : (x : Package) → Known x → (definition i j : ℕ) → IsFieldOfDefinition x i definition → IsFieldOfDefinition x j definition →
      Contains set (Field (symbol_in x i)) → Contains set (Field (symbol_in x j)) → i ≡ j
  pub methods : (x : Package) → Known x → (definition i j : ℕ) → IsMethodOfDefinition x i definition → IsMethodOfDefinition x j definition →
      Contains set (Method (symbol_in x i)) → Contains set (Method (symbol_in x j)) → i ≡ j

-- A rename with edits of it.
pub record EditedRename : Type 0 where
  pub of : MemberRename
  pub moves : FileChanges

abbrev pub by : MemberRename → FileChanges → EditedRename
by m s = record { of = m; moves = s }

-- The change that the edits make.
abbrev pub rename_revision : EditedRename → Revision
rename_revision m = revision_of (workspace_before m.of) m.moves

-- In the package of a number, the uses and the declaring identifiers of members at the place stay bound.
abbrev pub MembersStayInNumber : EditedRename → ℕ → Place → Type 0
MembersStayInNumber m number place = (p : Package) → IsPackageAt (workspace_before m.of) (verdicts_in m.of) number p →
    MembersStayIn (workspace_before m.of) (verdicts_in m.of) (rename_revision m) p place × DeclaringNamesStayIn (workspace_before m.of) (verdicts_in m.of)
    (rename_revision m) p place

-- The rename has the type definitions and the name of its members, of which a type definition has one at most. The edits rename these. In
-- packages that are not marked members stay.
pub record KnowsRename (m : EditedRename) : Type 0 where
  pub others : (number : ℕ) → (IsMarked m.of.reaching.now number → ⊥) → (place : Place) → MembersStayInNumber m number place
  pub members : AreMembersOf (packages_before m.of) (renamed_members m.of) m.of.members.now
  pub apart : StandApart (packages_before m.of) (renamed_members m.of)
  pub called : (d : Declaration) → Contains (renamed_members m.of) d → IsNameFound (workspace_before m.of) (verdicts_in m.of) d (name_value m.of.called)
  pub renames : RenamesMember (workspace_before m.of) (verdicts_in m.of) (rename_revision m) (renamed_members m.of) m.of.name.now
