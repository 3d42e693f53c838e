-- What stands against renames of imports without a name, and against moves.
use Rattle.std.specs.Prelude.{ℕ, ◌↔◌, List}
use Rattle.base_files.specs.Workspace.{Workspace}
use Rattle.base_edits.specs.EditSet.{FileChanges}
use Rattle.base_edits.specs.RevisionsOfEdits.{revision_of}
use Rattle.types_declared.specs.Package.{Package}
use Rattle.workspace_check.specs.Verdicts.{Verdicts}
use Rattle.refactor_conflict.specs.Staying.{NoneIsLost}
use Rattle.refactor_coupled.specs.Obstacles.{HasNoObstacle, NoneChanges, PreservesAll}
use Rattle.refactor_preserve.specs.Preserved.{Preserves}
use Rattle.law_moves.specs.Agreement.{OfPlannedMoves}
use Rattle.law_moves.specs.Moves.{IsMove}
use Rattle.law_gained_names.specs.UnnamedRenames.{IsNamedFirst, IsUnnamedRename, OfUnnamedRenames, StepsPreserve}

-- Where an import without a name gains one, and no identifier is lost or captured, no interface's implementing types change.
abbrev pub UnnamedRenamesTurnNone : Type 0
UnnamedRenamesTurnNone = OfUnnamedRenames (λ w known p n name s. NoneIsLost w known (revision_of w s) → NoneChanges w known (revision_of w s))

-- So it is with a move.
abbrev pub MovesTurnNone : Type 0
MovesTurnNone = (w : Workspace) (known : Verdicts) (from to : List ℕ) (s : FileChanges) → IsMove w known from to s →
    NoneIsLost w known (revision_of w s) → NoneChanges w known (revision_of w s)

-- A planned move that preserves bindings preserves implementing types.
abbrev pub MovesPreserveAll : Type 0
MovesPreserveAll = OfPlannedMoves (λ w known r. Preserves w r → PreservesAll w r)

-- Nothing stands against the rename of an import without a name exactly where it preserves bindings and implementing types.
abbrev pub UnnamedObstaclesDecide : Type 0
UnnamedObstaclesDecide = (w : Workspace) (known : Verdicts) (p : Package) (n : ℕ) (name : List ℕ) (s : FileChanges) →
    IsUnnamedRename w known p n name s → (f : IsNamedFirst w known p n name s) → StepsPreserve w s f.naming f.renaming →
    HasNoObstacle w known (revision_of w s) ↔ PreservesAll w (revision_of w s)
