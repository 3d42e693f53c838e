-- The answers to the goals of `balance::results_are_balanced`.
use Rattle.law_faultless.proofs.FunctionsBalanced.{results_balanced}
use Rattle.law_faultless.proofs.balance.results_are_balanced.Goals as goal

pub returns : goal.returns
returns c = λ arity s slots locals e ts m f answers h. results_balanced arity s slots locals e ts m f answers h
