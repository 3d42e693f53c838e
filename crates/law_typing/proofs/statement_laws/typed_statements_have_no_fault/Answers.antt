-- The answers to the goals of `statement_laws::typed_statements_have_no_fault`.
use Rattle.law_typing.proofs.StatementLaws.{statement_law}
use Rattle.law_typing.proofs.statement_laws.typed_statements_have_no_fault.Goals as goal

pub returns : goal.returns
returns c = λ w results s x after h r. statement_law w results s x after h r
