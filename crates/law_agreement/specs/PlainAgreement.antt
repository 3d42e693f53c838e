-- Plain renames after which the same types implement the same interfaces: those that lose and capture no identifier are those that preserve
-- bindings.
use Rattle.std.specs.Prelude.{ℕ, ◌≢◌, ◌↔◌, List, Option, None}
use Rattle.base_files.specs.Workspace.{Workspace}
use Rattle.base_edits.specs.EditSet.{FileChanges}
use Rattle.base_edits.specs.RevisionsOfEdits.{revision_of}
use Rattle.workspace_check.specs.Verdicts.{Verdicts}
use Rattle.refs_binding.specs.declared.declaration.Declaration.{Declaration}
use Rattle.refactor_preserve.specs.Preserved.{Preserves}
use Rattle.refactor_conflict.specs.Conflicts.{IsConflict, IsFirstConflict}
use Rattle.refactor_conflict.specs.Staying.{NoneIsLost}
use Rattle.refactor_conflict.specs.declared.conflict.Conflict.{Conflict}
use Rattle.law_renamed_workspaces.specs.Harmless.{SameImplement}
use Rattle.law_agreement.specs.Agreement.{KeepsSeenImplementing}
use Rattle.law_renamed_workspaces.specs.Renames.{IsPlainRename}
use Rattle.law_agreement.specs.ScopeRenames.{OfRenamesIn}

-- Such a plain rename loses and captures no identifier exactly where it preserves bindings.
abbrev pub PlainRenamesAgree : Type 0
PlainRenamesAgree = (w : Workspace) (known : Verdicts) (d : Declaration) (name : List ℕ) (s : FileChanges) → IsPlainRename w known d name s →
    SameImplement w known (revision_of w s) → NoneIsLost w known (revision_of w s) ↔ Preserves w (revision_of w s)

-- A plain rename that has a conflict does not preserve bindings and implementing types.
abbrev pub ConflictsRefuse : Type 0
ConflictsRefuse = (w : Workspace) (known : Verdicts) (d : Declaration) (name : List ℕ) (s : FileChanges) → IsPlainRename w known d name s →
    (c : Conflict) → IsConflict w known (revision_of w s) c → (k : Preserves w (revision_of w s)) → KeepsSeenImplementing w known (revision_of w s) k.after → ⊥

-- Such a plain rename that does not preserve bindings has a first conflict.
abbrev pub PlainConflictsAreTold : Type 0
PlainConflictsAreTold = (w : Workspace) (known : Verdicts) (d : Declaration) (name : List ℕ) (s : FileChanges) → IsPlainRename w known d name s →
    SameImplement w known (revision_of w s) → (Preserves w (revision_of w s) → ⊥) → (told : Option Conflict) →
    IsFirstConflict w known (revision_of w s) told → told ≢ None

-- So does each plain rename of a declaration of scopes, which renames no method.
abbrev pub ScopeRenamesAgree : Type 0
ScopeRenamesAgree = OfRenamesIn (λ w known p n name s. NoneIsLost w known (revision_of w s) ↔ Preserves w (revision_of w s))
