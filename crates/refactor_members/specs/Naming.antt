-- Fields and methods that have the new name of a rename, and what is known of a package that is judged.
use Rattle.std.specs.Prelude.{ℕ, ◌≡◌, List, Option, Some, None, Contains, map, MatchOption, if◌then◌else◌, nat_le}
use Rattle.base_files.specs.Workspace.{Workspace}
use Rattle.go_ast.specs.SourceFile.{source_of}
use Rattle.types_expr.specs.declared.symbol.Symbol.{Symbol}
use Rattle.types_declared.specs.Package.{Package}
use Rattle.types_declared.specs.Definitions.{AreDefinitions}
use Rattle.types_info.specs.MemberUses.{AreMemberUses, AreUsesIn, uses_in}
use Rattle.types_expr.specs.Judge.{MemberUse}
use Rattle.workspace_check.specs.Verdicts.{Verdicts}
use Rattle.refs_binding.specs.Members.{definitions_known}
use Rattle.refs_binding.specs.Uses.{IsCheckedPackage}
use Rattle.refactor_conflict.specs.MembersAfter.{IsFirst}
use Rattle.refactor_conflict.specs.OldPlaces.{field_at, method_at}
pub use Rattle.law_agreement.specs.ConflictsByTables.{HasField, HasMethod}
use Rattle.refactor_members.specs.declared.member_rename.MemberRename.{MemberRename}
use Rattle.refactor_members.specs.declared.member_rename.RenamedMember.{RenamedMember}
use Rattle.refactor_members.specs.declared.judged_uses.PackageUses.{PackageUses}

-- The first rank of which `Old` holds, or `None` where it holds of none.
abbrev pub IsFirstOld : (ℕ → Type 0) → Option ℕ → Type 0
IsFirstOld Old found = MatchOption found ((rank : ℕ) → Old rank → ⊥) (IsFirst Old)

-- The renamed member is the field of this rank in the package of the type definition `of`, in the struct that this writes.
abbrev pub IsOwnField : (of : Symbol) → RenamedMember → (rank : ℕ) → Type 0
IsOwnField of m rank = (m.definition ≡ Some of.rank) × (m.declaration.now ≡ field_at of.package rank)

-- The renamed member is the method of this rank in the package of the type definition `of`, and one of its methods.
abbrev pub IsOwnMethod : (of : Symbol) → RenamedMember → (rank : ℕ) → Type 0
IsOwnMethod of m rank = (m.definition ≡ Some of.rank) × (m.declaration.now ≡ method_at of.package rank)

-- So is one of the renamed members.
pub record IsRenamedField (m : MemberRename) (of : Symbol) (rank : ℕ) : Type 0 where
  pub member : RenamedMember
  pub among : Contains m.members.now member
  pub is_own : IsOwnField of member rank

pub record IsRenamedMethod (m : MemberRename) (of : Symbol) (rank : ℕ) : Type 0 where
  pub member : RenamedMember
  pub among : Contains m.members.now member
  pub is_own : IsOwnMethod of member rank

-- The lesser of two ranks, where there are any.
abbrev pub lesser_rank : Option ℕ → Option ℕ → Option ℕ
lesser_rank None b = b
lesser_rank (Some m) None = Some m
lesser_rank (Some m) (Some n) = if nat_le m n then Some m else Some n

-- `of` has the trees of the package `p`, the type definitions that it knows, and its uses of members.
pub record HasUsesOf (w : Workspace) (known : Verdicts) (p : Package) (of : PackageUses) : Type 0 where
  pub is_package : IsCheckedPackage w known p
  pub files : map source_of of.files.now ≡ p.files
  pub path : of.types.path.now ≡ p.path
  pub definitions : AreDefinitions p (definitions_known of.types)
  pub members : AreMemberUses p (map uses_in of.members.now)

-- The use of a member is one of those in the file.
pub record IsUseIn (p : Package) (file : ℕ) (x : MemberUse) : Type 0 where
  pub uses : List MemberUse
  pub judged : AreUsesIn p file uses
  pub among : Contains uses x
