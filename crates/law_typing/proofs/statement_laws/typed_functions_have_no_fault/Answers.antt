-- The answers to the goals of `statement_laws::typed_functions_have_no_fault`.
use Rattle.law_typing.proofs.StatementLaws.{function_law}
use Rattle.law_typing.proofs.statement_laws.typed_functions_have_no_fault.Goals as goal

pub returns : goal.returns
returns c = λ w b s f after h r. function_law w b s f after h r
