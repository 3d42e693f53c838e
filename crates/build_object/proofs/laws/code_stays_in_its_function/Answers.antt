-- The answers to the goals of `laws::code_stays_in_its_function`.
use Rattle.build_object.proofs.FittingObjects.{code_fits}
use Rattle.build_object.proofs.laws.code_stays_in_its_function.Goals as goal

pub returns : goal.returns
returns c = λ p files_of o is f has. code_fits p files_of o is f has
