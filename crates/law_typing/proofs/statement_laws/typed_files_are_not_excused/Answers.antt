-- The answers to the goals of `statement_laws::typed_files_are_not_excused`.
use Rattle.law_typing.proofs.TypedNotExcused.{file_not}
use Rattle.law_typing.proofs.statement_laws.typed_files_are_not_excused.Goals as goal

pub returns : goal.returns
returns c = λ w is_init f r e. file_not w is_init f r e
