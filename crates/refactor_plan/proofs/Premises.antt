-- The laws of renames that a plan rests on: what stands against a rename decides it, and an import without a name gains one in two steps.
use Rattle.law_gained_names.specs.UnnamedRenames.{UnnamedRenamesHaveSteps}
use Rattle.law_gained_names.proofs.GainingRenamesLaws.{unnamed_renames_have_steps}
pub use Rattle.law_implementing.proofs.Laws.{names_are_freed, no_obstacle_is_harmless, obstacles_decide, scope_renames_turn_none, sets_are_called_alike}
pub use Rattle.law_implementing.proofs.Laws.{turns_are_told, unnamed_obstacles_decide, unnamed_renames_turn_none}

pub have_steps : UnnamedRenamesHaveSteps
have_steps = unnamed_renames_have_steps
