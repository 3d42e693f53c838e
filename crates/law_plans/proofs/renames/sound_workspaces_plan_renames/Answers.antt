-- The answers to the goals of `renames::sound_workspaces_plan_renames`.
use Rattle.law_plans.proofs.SoundPlans.{sound_renames}
use Rattle.law_plans.proofs.renames.sound_workspaces_plan_renames.Goals as goal

pub returns : goal.returns
returns c = sound_renames
