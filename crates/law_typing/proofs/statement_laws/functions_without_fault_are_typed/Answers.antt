-- The answers to the goals of `statement_laws::functions_without_fault_are_typed`.
use Rattle.law_typing.proofs.StatementLaws.{settled_function}
use Rattle.law_typing.proofs.statement_laws.functions_without_fault_are_typed.Goals as goal

pub returns : goal.returns
returns c = λ w b s f h. settled_function w b s f h
