-- The answers to the goals of `balance::statements_are_balanced`.
use Rattle.law_faultless.proofs.FunctionsBalanced.{statement_balanced}
use Rattle.law_faultless.proofs.balance.statements_are_balanced.Goals as goal

pub returns : goal.returns
returns c = λ arity s slots results before after x t f answers exits. statement_balanced arity s slots results before after x t f answers exits
