-- Changes that lose and capture no identifier, and leave which types implement which interfaces.
use Rattle.std.specs.Prelude.{ℕ, ◌↔◌, List}
use Rattle.base_edits.specs.EditSet.{FileChanges}
use Rattle.base_edits.specs.Revisions.{Revision}
use Rattle.base_edits.specs.RevisionsOfEdits.{revision_of}
use Rattle.base_files.specs.Workspace.{Workspace}
use Rattle.types_expr.specs.declared.symbol.Symbol.{Symbol}
use Rattle.types_expr.specs.Types.{PlainType}
use Rattle.types_expr.specs.World.{Definition, Implements}
use Rattle.types_declared.specs.Definitions.{AreDefinitions}
use Rattle.types_declared.specs.Package.{Package}
use Rattle.workspace_check.specs.Verdicts.{Verdicts}
use Rattle.refs_binding.specs.declared.declaration.Declaration.TheVariants.{Declared}
use Rattle.refs_binding.specs.Uses.{IsCheckedPackage}
use Rattle.refactor_conflict.specs.Staying.{NoneIsLost}
use Rattle.law_changed_types.specs.SameBindings.{IsBoundAlike}
use Rattle.law_renamed_workspaces.specs.Layouts.{IsRelaid}
use Rattle.law_renamed_workspaces.specs.MembersMoved.{AreSeenAfter}
use Rattle.law_renamed_workspaces.specs.Renames.{IsPlainRename}

-- The package `p` becomes `q`, with other names and the same bindings. `q` sees of other packages what `p` saw, with new names of members.
-- Then by the definitions that the two see the same types implement the same interfaces.
abbrev pub SameImplement : Workspace → Verdicts → Revision → Type 0
SameImplement w known r = (after : Verdicts) (p q : Package) → IsCheckedPackage w known p → IsCheckedPackage r.after after q → IsRelaid r p q →
    IsBoundAlike p q → AreSeenAfter (IsCheckedPackage w known) r p q → (old new : Symbol → Definition) → AreDefinitions p old → AreDefinitions q new →
    (t : PlainType) (interface : Symbol) → Implements old t interface ↔ Implements new t interface

-- The change loses and captures no identifier, and the same types implement the same interfaces after it.
pub record IsHarmless (w : Workspace) (known : Verdicts) (r : Revision) : Type 0 where
  pub none_lost : NoneIsLost w known r
  pub implementing : SameImplement w known r

-- A plain rename of a declaration of scopes is harmless where it loses and captures no identifier.
abbrev pub ScopeRenamesAreHarmless : Type 0
ScopeRenamesAreHarmless = (w : Workspace) (known : Verdicts) (path : List ℕ) (n : ℕ) (name : List ℕ) (s : FileChanges) →
    IsPlainRename w known (Declared path n) name s → NoneIsLost w known (revision_of w s) → IsHarmless w known (revision_of w s)
