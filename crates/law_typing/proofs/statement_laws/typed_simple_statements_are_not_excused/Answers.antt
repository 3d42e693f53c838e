-- The answers to the goals of `statement_laws::typed_simple_statements_are_not_excused`.
use Rattle.law_typing.proofs.SimpleNotExcused.{simple_not}
use Rattle.law_typing.proofs.statement_laws.typed_simple_statements_are_not_excused.Goals as goal

pub returns : goal.returns
returns c = λ w before after a h x. simple_not w h x
