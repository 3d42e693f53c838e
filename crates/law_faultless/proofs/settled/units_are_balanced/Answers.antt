-- The answers to the goals of `settled::units_are_balanced`.
use Rattle.law_faultless.proofs.Compiled.{compiled_balanced}
use Rattle.law_faultless.proofs.settled.units_are_balanced.Goals as goal

pub returns : goal.returns
returns c = λ w sound known right arity arities p has i text u f here. compiled_balanced w sound known right arity arities p has i text u f here
