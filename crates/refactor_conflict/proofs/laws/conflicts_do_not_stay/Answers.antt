-- The answers to the goals of `laws::conflicts_do_not_stay`.
use Rattle.refactor_conflict.proofs.ConflictsDiffer.{not_staying}
use Rattle.refactor_conflict.proofs.laws.conflicts_do_not_stay.Goals as goal

pub returns : goal.returns
returns c = λ w known r x is stays. not_staying w known r x is stays
