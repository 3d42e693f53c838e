-- The declaring identifiers and the uses of members, where no identifier is lost or captured: they are bound to the same members.
use Rattle.std.specs.Prelude.{ℕ, ◌≡◌, List, Some, slice_get}
use Rattle.base_files.specs.declared.place.Place.{Place}
use Rattle.base_files.specs.Workspace.{Workspace}
use Rattle.base_edits.specs.EditSet.{FileChanges}
use Rattle.base_edits.specs.Revisions.{Revision}
use Rattle.base_edits.specs.RevisionsOfEdits.{revision_of}
use Rattle.go_ast.specs.SourceFile.{SourceFile}
use Rattle.types_expr.specs.World.{World}
use Rattle.types_stmt.specs.Declarations.{check_file}
use Rattle.types_declared.specs.Package.{Package}
use Rattle.types_info.specs.Worlds.{IsWorldOf, is_init}
use Rattle.workspace_check.specs.Verdicts.{Verdicts}
use Rattle.refs_binding.specs.declared.declaration.Declaration.{Declaration}
use Rattle.refs_binding.specs.Binding.{BindsByMember, DeclaresMember}
use Rattle.refs_binding.specs.Identifiers.{BeginsAt}
use Rattle.refs_binding.specs.Uses.{IsCheckedPackage}
use Rattle.refactor_conflict.specs.Staying.{NoneIsLost}
use Rattle.law_changed_types.specs.SameBindings.{IsBoundAlike}
use Rattle.law_renamed_workspaces.specs.Layouts.{IsRelaid}
use Rattle.law_renamed_workspaces.specs.Renames.{IsPlainRename}
use Rattle.law_renamed_workspaces.specs.MembersMoved.{AreSeenAfter}

-- An identifier that declares a field or method declares it after the change.
abbrev pub DeclaredMembersStay : Type 0
DeclaredMembersStay = (w : Workspace) (before : Verdicts) (r : Revision) → NoneIsLost w before r → (p q : Package) → IsCheckedPackage w before p →
    IsRelaid r p q → IsBoundAlike p q → AreSeenAfter (IsCheckedPackage w before) r p q → (u : ℕ) (place : Place) → BeginsAt p place.path place.offset u →
    (d : Declaration) → DeclaresMember p u d → DeclaresMember q u d

-- Where the same is found of a file after a plain rename, each use of a member in it names the same member.
abbrev pub UsedMembersStay : Type 0
UsedMembersStay = (w : Workspace) (before : Verdicts) (d : Declaration) (name : List ℕ) (s : FileChanges) → IsPlainRename w before d name s →
    NoneIsLost w before (revision_of w s) → (p q : Package) → IsCheckedPackage w before p → IsRelaid (revision_of w s) p q → IsBoundAlike p q →
    AreSeenAfter (IsCheckedPackage w before) (revision_of w s) p q → (file : ℕ) (f g : SourceFile) (v x : World) → slice_get p.files file ≡ Some f →
    slice_get q.files file ≡ Some g → IsWorldOf p file f v → IsWorldOf q file g x →
    check_file x (is_init g) g.tree ≡ check_file v (is_init f) f.tree → (u : ℕ) → (p.layout.place u).file ≡ file → (e : Declaration) →
    BindsByMember p u e → BindsByMember q u e
