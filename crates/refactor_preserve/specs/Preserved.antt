-- When a change preserves all bindings.
use Rattle.std.specs.Prelude.{[]}
use Rattle.base_files.specs.Workspace.{Workspace}
use Rattle.base_files.specs.declared.place.Place.{Place}
use Rattle.workspace_check.specs.Verdicts.{Verdicts, AreVerdicts}
use Rattle.workspace_check.specs.FaultLists.{ListsFaults}
use Rattle.refs_binding.specs.declared.declaration.Declaration.{Declaration}
use Rattle.refs_binding.specs.Uses.{IsCheckedPackage, IsUseOf}
use Rattle.refs_places.specs.Identified.{IsIdentifierAt}
use Rattle.base_edits.specs.Revisions.{Revision}
use Rattle.refactor_preserve.specs.BoundToOne.{IsBoundToOne}
use Rattle.refactor_conflict.specs.Corresponding.{Corresponds}

-- Each identifier stays bound to what its declaration has become, and is bound to nothing more.
pub record KeepsBindings (w : Workspace) (before : Verdicts) (r : Revision) (after : Verdicts) : Type 0 where
  pub keeps : (place : Place) (d : Declaration) → IsUseOf w before d place →
      IsBoundToOne r.after after (r.moved place) (λ e. Corresponds (IsCheckedPackage w before) (IsCheckedPackage r.after after) r.moved d e)
  pub adds_none : (place : Place) (e : Declaration) → IsIdentifierAt w before place → IsUseOf r.after after e (r.moved place) →
      IsBoundToOne w before place (λ d. Corresponds (IsCheckedPackage w before) (IsCheckedPackage r.after after) r.moved d e)

-- The workspace after the change has no fault. Each identifier stays bound to what its declaration has become, and is bound to nothing
-- more.
pub record Preserves (w : Workspace) (r : Revision) : Type 0 where
  pub before : Verdicts
  pub right : AreVerdicts w before
  pub after : Verdicts
  pub right_after : AreVerdicts r.after after
  pub sound : ListsFaults r.after []
  pub kept : KeepsBindings w before r after
