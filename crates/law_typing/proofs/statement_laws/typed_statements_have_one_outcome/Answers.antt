-- The answers to the goals of `statement_laws::typed_statements_have_one_outcome`.
use Rattle.law_typing.proofs.StatementLaws.{one_outcome}
use Rattle.law_typing.proofs.statement_laws.typed_statements_have_one_outcome.Goals as goal

pub returns : goal.returns
returns c = λ w results before after other x h k. one_outcome w results before after other x h k
