-- There is a unit just where one is found.
use Rattle.std.proofs.Common.{refl}
use Rattle.std.proofs.lemmas.Bool.{false≢true}
use Rattle.build_carry.proofs.finished.has_unit.Goals as goal

pub returns-in-Some : goal.returns-in-Some
returns-in-Some c = (λ _. (c.in-Some.field-0.now, c.in-Some.ensures), λ _. refl)

pub returns-in-None : goal.returns-in-None
returns-in-None c = (λ t. absurd (false≢true t), λ has. absurd (c.in-None.ensures has.0 has.1))
