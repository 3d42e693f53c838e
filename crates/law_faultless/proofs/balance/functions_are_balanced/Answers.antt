-- The answers to the goals of `balance::functions_are_balanced`.
use Rattle.law_faultless.proofs.FunctionsBalanced.{function_balanced}
use Rattle.build_object.specs.Slots.{slots_of}
use Rattle.law_faultless.proofs.balance.functions_are_balanced.Goals as goal

pub returns : goal.returns
returns c = λ arity s is_init before after f t wf answers. function_balanced arity s (slots_of s.world f) is_init before after f t wf answers
