-- The answers to the goals of `statement_laws::typed_statements_are_not_excused`.
use Rattle.law_typing.proofs.TypedNotExcused.{statement_not}
use Rattle.law_typing.proofs.statement_laws.typed_statements_are_not_excused.Goals as goal

pub returns : goal.returns
returns c = λ w results before after x r e. statement_not w results r e
