-- The answers to the goals of `moves::sound_workspaces_plan_moves`.
use Rattle.law_plans.proofs.SoundPlans.{sound_moves}
use Rattle.law_plans.proofs.moves.sound_workspaces_plan_moves.Goals as goal

pub returns : goal.returns
returns c = sound_moves
