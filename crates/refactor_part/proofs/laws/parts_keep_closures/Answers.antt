-- The packages of the part, and their closures.
use Rattle.refactor_part.proofs.PartClosures.{part_closure}
use Rattle.refactor_part.proofs.PartFiles.{from_part, into_part}
use Rattle.refactor_part.proofs.laws.parts_keep_closures.Goals as goal

pub returns-clause-packages : goal.returns-clause-packages
returns-clause-packages c = λ w known right p. ((λ has. from_part w known p has), (λ is. into_part w known p is.0 is.1))

pub returns-clause-closures : goal.returns-clause-closures
returns-clause-closures c = part_closure
