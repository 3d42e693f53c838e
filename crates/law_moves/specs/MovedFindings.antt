-- What is known of packages is right of the edited workspace after a move that loses and captures no identifier, once it is moved.
use Rattle.std.specs.Prelude.{ℕ, List, Contains}
use Rattle.base_edits.specs.EditSet.{FileChanges, edited}
use Rattle.base_edits.specs.RevisionsOfEdits.{revision_of}
use Rattle.base_files.specs.Packages.{package_paths}
use Rattle.base_files.specs.Workspace.{Workspace}
use Rattle.workspace_check.specs.declared.finding.Finding.{Finding}
use Rattle.workspace_check.specs.declared.known.Known.{Known}
use Rattle.workspace_check.specs.declared.known.KnownVerdict.{KnownVerdict}
use Rattle.workspace_check.specs.Found.{KnowsVerdicts}
use Rattle.workspace_check.specs.KnownFindings.{IsFindingOf, IsKnownVerdict}
use Rattle.workspace_check.specs.Verdicts.{Verdicts}
use Rattle.refactor_conflict.specs.Staying.{NoneIsLost}
use Rattle.refactor_known.specs.MovedKnown.{AreMovedKnown, IsMovedFinding, IsMovedKnown}
use Rattle.refactor_known.specs.Swaps.{swapped}
use Rattle.law_moves.specs.Moves.{IsMove}
use Rattle.law_moves.specs.MovedVerdicts.{MovesBySwap}

-- The moved finding of a package is right of the edited workspace.
abbrev pub FindingsMove : Type 0
FindingsMove = (w : Workspace) (known : Verdicts) (from to : List ℕ) (s : FileChanges) → IsMove w known from to s →
    MovesBySwap w from to → NoneIsLost w known (revision_of w s) → (path : List ℕ) → Contains (package_paths w) path → (was now : Finding) →
    IsFindingOf w path was →
    IsMovedFinding (swapped from to) was now → IsFindingOf (edited s w) (swapped from to path) now

-- So is the moved known verdict on a package.
abbrev pub KnownVerdictsMove : Type 0
KnownVerdictsMove = (w : Workspace) (known : Verdicts) (from to : List ℕ) (s : FileChanges) → (h : IsMove w known from to s) →
    MovesBySwap w from to → NoneIsLost w known (revision_of w s) → (path : List ℕ) → Contains (package_paths w) path → (was now : KnownVerdict) →
    IsKnownVerdict w path was →
    IsMovedKnown h.edits.moved.from h.edits.moved.name (swapped from to) was now → IsKnownVerdict (edited s w) (swapped from to path) now

-- So all moved known verdicts are right of it.
abbrev pub AllKnownMove : Type 0
AllKnownMove = (w : Workspace) (known : Verdicts) (from to : List ℕ) (s : FileChanges) → (h : IsMove w known from to s) →
    MovesBySwap w from to → NoneIsLost w known (revision_of w s) → (old rest : Known) → KnowsVerdicts w old →
    AreMovedKnown h.edits.moved.from h.edits.moved.name (swapped from to) (package_paths w) (package_paths (edited s w)) old rest →
    KnowsVerdicts (edited s w) rest
