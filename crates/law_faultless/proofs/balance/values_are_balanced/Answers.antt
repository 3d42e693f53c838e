-- The answers to the goals of `balance::values_are_balanced`.
use Rattle.law_faultless.proofs.FunctionsBalanced.{value_balanced}
use Rattle.law_faultless.proofs.balance.values_are_balanced.Goals as goal

pub returns : goal.returns
returns c = λ arity s slots locals e k a m f answers h. value_balanced arity s slots locals e k a m f answers h
