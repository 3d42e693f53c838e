-- The answers to the goals of `statement_laws::typed_functions_are_not_excused`.
use Rattle.law_typing.proofs.TypedNotExcused.{function_not}
use Rattle.law_typing.proofs.statement_laws.typed_functions_are_not_excused.Goals as goal

pub returns : goal.returns
returns c = λ w is_init before after f r e. function_not w is_init r e
