-- What is known of units is carried along by a planned rename.
use Rattle.std.proofs.Common.{ℕ, List}
use Rattle.std.specs.Prelude.{Ok}
use Rattle.workspace_snapshot.specs.declared.change.Change.{Change}
use Rattle.workspace_snapshot.specs.declared.snapshot.Snapshot.{Snapshot}
use Rattle.build_names.specs.Words.{NameChange}
use Rattle.build_kept.specs.KnownUnits.{CarriesUnits}
use Rattle.refactor_affected.specs.Renames.{PlansAffectedRename}
use Rattle.refactor_units.specs.CarriedNames.{CarriesPlanned}
use Rattle.law_plans.proofs.SoundPlans.{sound_renames}

-- without faults the rename is planned as in any workspace without faults
pub carries_along : (snapshot : Snapshot) (path : List ℕ) (offset : ℕ) (name : List ℕ) (cs : List NameChange) (change : Change) →
    CarriesPlanned snapshot path offset name cs → PlansAffectedRename snapshot path offset name (Ok change) → CarriesUnits snapshot.files change.files cs
carries_along snapshot path offset name cs change carried affected =
    carried.carries change ((sound_renames snapshot path offset name (Ok change) carried.sound).0 affected)
