-- What stands against a rename decides whether it preserves bindings, and which types implement which interfaces.
use Rattle.std.specs.Prelude.{◌↔◌}
use Rattle.base_edits.specs.RevisionsOfEdits.{revision_of}
use Rattle.refactor_conflict.specs.Staying.{NoneIsLost}
use Rattle.refactor_coupled.specs.Obstacles.{HasNoObstacle, KeepsImplementing, NoneChanges, PreservesAll}
use Rattle.law_renamed_workspaces.specs.Harmless.{IsHarmless}
use Rattle.law_renamed_workspaces.specs.NamesAfterwards.{OfPlainRenames}
use Rattle.law_agreement.specs.ScopeRenames.{OfRenamesIn}
use Rattle.law_implementing.specs.Definitions.{OfPreservingRenames}

-- Where a plain rename preserves bindings, the same types implement the same interfaces after it exactly where no interface's implementing
-- types change.
abbrev pub ChangesDecide : Type 0
ChangesDecide = OfPreservingRenames (λ w known after s. NoneChanges w known (revision_of w s) ↔ KeepsImplementing w known (revision_of w s) after)

-- A plain rename against which nothing stands is harmless.
abbrev pub NoObstacleIsHarmless : Type 0
NoObstacleIsHarmless = OfPlainRenames (λ w known d set name s. HasNoObstacle w known (revision_of w s) → IsHarmless w known (revision_of w s))

-- Nothing stands against a plain rename exactly where it preserves bindings and implementing types.
abbrev pub ObstaclesDecide : Type 0
ObstaclesDecide = OfPlainRenames (λ w known d set name s. HasNoObstacle w known (revision_of w s) ↔ PreservesAll w (revision_of w s))

-- A plain rename of a declaration of scopes that loses and captures no identifier changes no interface's implementing types.
abbrev pub ScopeRenamesTurnNone : Type 0
ScopeRenamesTurnNone = OfRenamesIn (λ w known p n name s. NoneIsLost w known (revision_of w s) → NoneChanges w known (revision_of w s))
