-- What is decided of the rename of a declaration of scopes by the workspace before it.
use Rattle.std.specs.Prelude.{ℕ, ◌≡◌, List, Option, IsTrue}
use Rattle.base_files.specs.Workspace.{Workspace}
use Rattle.types_declared.specs.Package.{Package}
use Rattle.workspace_check.specs.Verdicts.{Verdicts}
use Rattle.refs_binding.specs.Uses.{IsCheckedPackage}
use Rattle.refactor_conflict.specs.declared.conflict.Conflict.{Conflict}
use Rattle.refactor_rename.specs.Literals.{IsUnnamedImport}
use Rattle.law_renamed_workspaces.specs.KnownVerdicts.{IsHiddenIn}
use Rattle.law_agreement.specs.ScopeConflicts.{FirstConflictBehind, FirstOwnConflict, earlier_conflict}
use Rattle.refactor_decide.specs.Own.{CanRename}
use Rattle.refactor_decide.specs.declared.decision.ScopeDecision.{ScopeDecision}

-- The first conflict of the rename: the earlier one of the first in the scopes of the package and the first behind the package's name.
pub record IsFirstOfBoth (w : Workspace) (known : Verdicts) (p : Package) (n : ℕ) (name : List ℕ) (told : Option Conflict) : Type 0 where
  pub own : Option Conflict
  pub behind : Option Conflict
  pub first_own : FirstOwnConflict (IsCheckedPackage w known) p n name own
  pub first_behind : FirstConflictBehind (IsCheckedPackage w known) p n name behind
  pub is_told : told ≡ earlier_conflict own behind

-- The declaration of the package has another name. The decision has the first conflict. Where it says that the declaration is hidden, other
-- packages see it under neither name, and it is no import that gains a name.
pub record Decides (w : Workspace) (known : Verdicts) (p : Package) (n : ℕ) (name : List ℕ) (d : ScopeDecision) : Type 0 where
  pub can : CanRename p n name
  pub first : IsFirstOfBoth w known p n name d.conflict
  pub hidden : IsTrue d.is_hidden → IsHiddenIn p n name
  pub has_name : IsTrue d.is_hidden → IsUnnamedImport p n → ⊥
