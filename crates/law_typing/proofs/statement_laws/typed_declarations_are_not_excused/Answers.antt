-- The answers to the goals of `statement_laws::typed_declarations_are_not_excused`.
use Rattle.law_typing.proofs.TypedNotExcused.{decl_not}
use Rattle.law_typing.proofs.statement_laws.typed_declarations_are_not_excused.Goals as goal

pub returns : goal.returns
returns c = λ w is_init before after d r e. decl_not w is_init r e
