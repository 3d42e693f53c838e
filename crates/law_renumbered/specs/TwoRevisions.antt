-- Two revisions of a workspace, one after the other.
use Rattle.std.specs.Prelude.{◌≡◌, ◌⊎◌}
use Rattle.base_files.specs.Workspace.{Workspace}
use Rattle.base_files.specs.declared.place.Place.{Place}
use Rattle.base_edits.specs.Revisions.{Revision}
use Rattle.workspace_check.specs.Verdicts.{Verdicts, AreVerdicts}
use Rattle.refs_binding.specs.declared.declaration.Declaration.{Declaration}
use Rattle.refs_binding.specs.Uses.{IsCheckedPackage, IsUseOf}
use Rattle.refactor_conflict.specs.Corresponding.{Corresponds}
use Rattle.refs_places.specs.Identified.{IsIdentifierAt}
use Rattle.refactor_preserve.specs.BoundToOne.{IsBoundToOne}
use Rattle.refactor_preserve.specs.Preserved.{KeepsBindings, Preserves}

-- The revision `r` leads to the workspace to which `two` leads, and moves each place as `one` and then `two` do.
pub record AreInTurn (one two r : Revision) : Type 0 where
  pub after : r.after ≡ two.after
  pub moved : (place : Place) → r.moved place ≡ two.moved (one.moved place)

-- Where an identifier begins before the revision, one begins afterwards at the moved place.
abbrev pub MovesIdentifiers : Workspace → Verdicts → Revision → Verdicts → Type 0
MovesIdentifiers w before r after = (place : Place) → IsIdentifierAt w before place → IsIdentifierAt r.after after (r.moved place)

-- The place is one to which the revision moves that of an identifier.
pub record IsIdentifierMoved (w : Workspace) (before : Verdicts) (r : Revision) (place : Place) : Type 0 where
  pub old : Place
  pub is_identifier : IsIdentifierAt w before old
  pub goes : r.moved old ≡ place

-- What begins at the place stays bound to what its declaration has become, and is bound to nothing more.
pub record KeepsAt (w : Workspace) (before : Verdicts) (r : Revision) (after : Verdicts) (place : Place) : Type 0 where
  pub keeps : (d : Declaration) → IsUseOf w before d place →
      IsBoundToOne r.after after (r.moved place) (λ e. Corresponds (IsCheckedPackage w before) (IsCheckedPackage r.after after) r.moved d e)
  pub adds_none : (e : Declaration) → IsUseOf r.after after e (r.moved place) →
      IsBoundToOne w before place (λ d. Corresponds (IsCheckedPackage w before) (IsCheckedPackage r.after after) r.moved d e)

-- Each identifier after the revision `one` is one of those before it, moved, or the revision `two` keeps it.
abbrev pub KeepsAdded : Workspace → Verdicts → Revision → Verdicts → Revision → Verdicts → Type 0
KeepsAdded w before one between two after = (place : Place) → IsIdentifierAt one.after between place → IsIdentifierMoved w before one place ⊎
    KeepsAt one.after between two after place

-- The first revision preserves bindings, with right verdicts before and after it, and moves identifiers to identifiers.
pub record IsFirstStep (w : Workspace) (before : Verdicts) (one : Revision) (between : Verdicts) : Type 0 where
  pub right : AreVerdicts w before
  pub right_between : AreVerdicts one.after between
  pub kept : KeepsBindings w before one between
  pub identifiers : MovesIdentifiers w before one between

abbrev pub RevisionsInTurnPreserve : Type 0
RevisionsInTurnPreserve = (w : Workspace) (before between : Verdicts) (one two r : Revision) → AreInTurn one two r → IsFirstStep w before one between →
    Preserves one.after two → Preserves w r

abbrev pub SecondRevisionsPreserve : Type 0
SecondRevisionsPreserve = (w : Workspace) (before between : Verdicts) (one two r : Revision) → AreInTurn one two r → IsFirstStep w before one between →
    (p : Preserves w r) → KeepsAdded w before one between two p.after → Preserves one.after two
