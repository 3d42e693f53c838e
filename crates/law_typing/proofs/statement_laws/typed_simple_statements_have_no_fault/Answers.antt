-- The answers to the goals of `statement_laws::typed_simple_statements_have_no_fault`.
use Rattle.law_typing.proofs.StatementLaws.{simple_law}
use Rattle.law_typing.proofs.statement_laws.typed_simple_statements_have_no_fault.Goals as goal

pub returns : goal.returns
returns c = λ w s a after h r. simple_law w s a after h r
