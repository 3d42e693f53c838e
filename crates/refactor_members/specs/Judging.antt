-- What is told of a rename step by step, while its member uses and declaring identifiers are judged.
use Rattle.std.specs.Prelude.{ℕ, ◌≡◌, ◌<◌, List, Option, Some, slice_get}
use Rattle.std.specs.Global.{Vec}
use Rattle.base_files.specs.declared.place.Place.{Place}
use Rattle.types_expr.specs.declared.found.MemberUse.{MemberUse as FoundUse}
use Rattle.types_expr.specs.Judge.{MemberUse}
use Rattle.types_info.specs.MemberUses.{uses_in}
use Rattle.go_ast.specs.SourceFile.{SourceFile}
use Rattle.go_scope.specs.Named.{name_value}
use Rattle.types_declared.specs.Package.{Package, spelled_at}
use Rattle.refs_binding.specs.declared.declaration.Declaration.{Declaration}
use Rattle.refs_binding.specs.Binding.{DeclaresMember}
use Rattle.refs_binding.specs.Steps.{UsesIn}
use Rattle.refactor_conflict.specs.MembersAfter.{CountsAfter}
use Rattle.refactor_conflict.specs.OldPlaces.{field_at, method_at}
use Rattle.refactor_conflict.specs.declared.conflict.Conflict.{Conflict}
use Rattle.refactor_conflict.specs.Conflicts.{Takes, HoldsBefore, IsConflictIn}
use Rattle.refactor_conflict.specs.Staying.{MembersStayIn, DeclaringNamesStayIn}
use Rattle.refactor_members.specs.declared.member_rename.MemberRename.{MemberRename}
use Rattle.refactor_members.specs.Renames.{EditedRename, KnowsRename, IsFieldOfNewName, IsMethodNamed}
use Rattle.refactor_members.specs.Renames.{workspace_before, verdicts_in, packages_before, rename_revision, renamed_members}

-- For a rename that is known: the first conflict found so far stays, or becomes an earlier one of which `P` holds. `K` holds of the places
-- before it.
abbrev pub Judges : EditedRename → (P : Conflict → Type 0) → (K : Place → Type 0) → (old new : Option Conflict) → Type 0
Judges m P K old new = KnowsRename m → Takes P old new × HoldsBefore K new

-- The same, of conflicts in the package `p`.
abbrev pub JudgesIn : EditedRename → Package → (K : Place → Type 0) → (old new : Option Conflict) → Type 0
JudgesIn m p K old new = Judges m (IsConflictIn (workspace_before m.of) (verdicts_in m.of) (rename_revision m) p) K old new

-- An identifier of the package declares the field or method, and begins at the place.
abbrev pub IsNamedAt : Package → Declaration → Place → Type 0
IsNamedAt p d place = UsesIn p (λ u. DeclaresMember p u d) place

-- If the field or method is declared at the place, it counts under its new name.
abbrev pub NewNameCounts : EditedRename → Package → Declaration → Place → Type 0
NewNameCounts m p d place = IsNamedAt p d place → CountsAfter (packages_before m.of) (rename_revision m) d

-- Of a rank, if one was found, the field is that of a member whose name stays.
abbrev pub ListedFieldStays : EditedRename → Package → Option ℕ → Place → Type 0
ListedFieldStays m p listed place = (rank : ℕ) → listed ≡ Some rank → NewNameCounts m p (field_at p.path rank) place

abbrev pub ListedMethodStays : EditedRename → Package → Option ℕ → Place → Type 0
ListedMethodStays m p listed place = (rank : ℕ) → listed ≡ Some rank → NewNameCounts m p (method_at p.path rank) place

-- The names of the fields stay that a type definition has under the new name.
abbrev pub FieldsStayOf : EditedRename → Package → (definition : ℕ) → Place → Type 0
FieldsStayOf m p definition place =
    (rank : ℕ) → IsFieldOfNewName (renamed_members m.of) m.of.name.now p definition rank → NewNameCounts m p (field_at p.path rank) place

-- The names of its methods stay.
abbrev pub MethodsStayOf : EditedRename → Package → (definition : ℕ) → Place → Type 0
MethodsStayOf m p definition place =
    (rank : ℕ) → IsMethodNamed (renamed_members m.of) m.of.name.now p definition rank → NewNameCounts m p (method_at p.path rank) place

-- Both.
abbrev pub NamesStayOf : EditedRename → Package → (definition : ℕ) → Place → Type 0
NamesStayOf m p definition place = FieldsStayOf m p definition place × MethodsStayOf m p definition place

-- The uses of members and the declaring identifiers of members in the package that begin at the place stay bound.
abbrev pub MembersStayThere : EditedRename → Package → Place → Type 0
MembersStayThere m p place = MembersStayIn (workspace_before m.of) (verdicts_in m.of) (rename_revision m) p place ×
    DeclaringNamesStayIn (workspace_before m.of) (verdicts_in m.of) (rename_revision m) p place

-- In all packages.
abbrev pub AllMembersStayAt : EditedRename → Place → Type 0
AllMembersStayAt m place = (p : Package) → packages_before m.of p → MembersStayThere m p place

-- A token has neither the new name nor the old one of the renamed members, if this was found.
pub record IsUncalled (m : MemberRename) (file : Option SourceFile) (token : ℕ) : Type 0 where
  pub not_new : spelled_at file token ≡ m.name.now → ⊥
  pub old : List ℕ
  pub has_old : name_value m.called ≡ Some old
  pub not_old : spelled_at file token ≡ old → ⊥

-- In the files below `count` no use of a member has one of the two names.
abbrev pub AreUncalled : MemberRename → List SourceFile → (count : ℕ) → List (Vec FoundUse) → Type 0
AreUncalled m files count members = (file : ℕ) (v : Vec FoundUse) → file < count → slice_get members file ≡ Some v → (k : ℕ) (x : MemberUse) →
    slice_get (uses_in v) k ≡ Some x → IsUncalled m (slice_get files file) x.place
