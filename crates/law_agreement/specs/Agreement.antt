-- That what is told of identifiers one by one agrees with what is told of the edited workspace.
use Rattle.std.specs.Prelude.{ℕ, ◌≢◌, ◌↔◌, List, Option, None}
use Rattle.base_files.specs.Workspace.{Workspace}
use Rattle.base_edits.specs.EditSet.{FileChanges, edited}
use Rattle.base_edits.specs.Revisions.{Revision}
use Rattle.types_expr.specs.declared.symbol.Symbol.{Symbol}
use Rattle.types_expr.specs.Types.{PlainType}
use Rattle.types_expr.specs.World.{Definition, Implements}
use Rattle.types_declared.specs.Definitions.{AreDefinitions}
use Rattle.types_declared.specs.Package.{Package}
use Rattle.workspace_check.specs.Verdicts.{Verdicts, AreVerdicts}
use Rattle.refs_binding.specs.declared.declaration.Declaration.{Declaration}
use Rattle.refs_binding.specs.Uses.{IsCheckedPackage}
use Rattle.refactor_preserve.specs.Preserved.{Preserves}
use Rattle.base_edits.specs.RevisionsOfEdits.{revision_of}
use Rattle.refactor_conflict.specs.Conflicts.{IsFirstConflict}
use Rattle.refactor_conflict.specs.Staying.{NoneIsLost}
use Rattle.refactor_conflict.specs.declared.conflict.Conflict.{Conflict}
use Rattle.law_changed_types.specs.SameBindings.{IsBoundAlike}
use Rattle.law_renamed_workspaces.specs.Harmless.{IsHarmless, SameImplement}
use Rattle.law_renamed_workspaces.specs.Layouts.{IsRelaid}
use Rattle.law_renamed_workspaces.specs.MembersMoved.{AreSeenAfter}
use Rattle.law_renamed_workspaces.specs.Renames.{IsRename, IsPlainRename}

-- By what packages see of types before and after the change, the same types implement the same interfaces. after: verdicts on the changed
-- workspace.
abbrev pub KeepsSeenImplementing : Workspace → Verdicts → Revision → Verdicts → Type 0
KeepsSeenImplementing w known r after = (p q : Package) → IsCheckedPackage w known p → IsCheckedPackage r.after after q → IsRelaid r p q →
    IsBoundAlike p q → AreSeenAfter (IsCheckedPackage w known) r p q → (old new : Symbol → Definition) → AreDefinitions p old → AreDefinitions q new →
    (t : PlainType) (interface : Symbol) → Implements old t interface ↔ Implements new t interface

-- A rename after which the same types implement the same interfaces loses and captures no identifier exactly where it preserves bindings.
abbrev pub RenamesAgree : Type 0
RenamesAgree = (w : Workspace) (known : Verdicts) (d : Declaration) (name : List ℕ) (s : FileChanges) → IsRename w known d name s →
    SameImplement w known (revision_of w s) → NoneIsLost w known (revision_of w s) ↔ Preserves w (revision_of w s)

-- The two halves of this.
abbrev pub NoneLostPreserves : Type 0
NoneLostPreserves = (w : Workspace) (known : Verdicts) (d : Declaration) (name : List ℕ) (s : FileChanges) → IsRename w known d name s →
    IsHarmless w known (revision_of w s) → Preserves w (revision_of w s)

abbrev pub PreservedLosesNone : Type 0
PreservedLosesNone = (w : Workspace) (known : Verdicts) (d : Declaration) (name : List ℕ) (s : FileChanges) → IsRename w known d name s →
    (k : Preserves w (revision_of w s)) → KeepsSeenImplementing w known (revision_of w s) k.after → NoneIsLost w known (revision_of w s)

-- The two halves, where no import gains a name.
abbrev pub PlainNoneLostPreserves : Type 0
PlainNoneLostPreserves = (w : Workspace) (known : Verdicts) (d : Declaration) (name : List ℕ) (s : FileChanges) → IsPlainRename w known d name s →
    IsHarmless w known (revision_of w s) → Preserves w (revision_of w s)

abbrev pub PlainPreservedLosesNone : Type 0
PlainPreservedLosesNone = (w : Workspace) (known : Verdicts) (d : Declaration) (name : List ℕ) (s : FileChanges) → IsPlainRename w known d name s →
    (k : Preserves w (revision_of w s)) → KeepsSeenImplementing w known (revision_of w s) k.after → NoneIsLost w known (revision_of w s)

-- The first half, where the edited workspace has verdicts.
abbrev pub CheckedNoneLostPreserves : Type 0
CheckedNoneLostPreserves = (w : Workspace) (known after : Verdicts) (d : Declaration) (name : List ℕ) (s : FileChanges) →
    IsPlainRename w known d name s → AreVerdicts (edited s w) after → IsHarmless w known (revision_of w s) → Preserves w (revision_of w s)

-- So such a rename that does not preserve bindings has a first conflict.
abbrev pub AConflictIsTold : Type 0
AConflictIsTold = (w : Workspace) (known : Verdicts) (d : Declaration) (name : List ℕ) (s : FileChanges) → IsRename w known d name s →
    SameImplement w known (revision_of w s) → (Preserves w (revision_of w s) → ⊥) → (told : Option Conflict) →
    IsFirstConflict w known (revision_of w s) told → told ≢ None

-- That follows from the first half alone.
abbrev pub AgreementTellsConflicts : Type 0
AgreementTellsConflicts = NoneLostPreserves → AConflictIsTold

-- Both halves together are the agreement.
abbrev pub HalvesAgree : Type 0
HalvesAgree = NoneLostPreserves → PreservedLosesNone → RenamesAgree
