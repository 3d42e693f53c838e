-- The answers to the goals of `statement_laws::typed_blocks_are_not_excused`.
use Rattle.law_typing.proofs.TypedNotExcused.{block_not}
use Rattle.law_typing.proofs.statement_laws.typed_blocks_are_not_excused.Goals as goal

pub returns : goal.returns
returns c = λ w results before after x r e. block_not w results r e
