-- The answers to the goals of `settled::functions_have_arities`.
use Rattle.law_faultless.proofs.Arity.{arities_are}
use Rattle.law_faultless.proofs.settled.functions_have_arities.Goals as goal

pub returns : goal.returns
returns c = λ w sound known right. arities_are w sound known right
