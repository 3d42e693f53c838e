-- An obstacle as a refusal: that of the conflict, or `Coupled` with the place of the interface.
use Rattle.base_files.specs.declared.refusal.Refusal.{Refusal}
use Rattle.base_files.specs.declared.refusal.Refusal.TheVariants.{Coupled}
use Rattle.refactor_conflict.specs.ConflictRefusal.{refusal_for}
use Rattle.refactor_coupled.specs.declared.obstacle.Obstacle.{Obstacle}
use Rattle.refactor_coupled.specs.declared.obstacle.Obstacle.TheVariants as obstacle

abbrev pub refusal_of_obstacle : Obstacle → Refusal
refusal_of_obstacle (obstacle.Conflict c) = refusal_for c.by c.used
refusal_of_obstacle (obstacle.Coupled place) = Coupled place
