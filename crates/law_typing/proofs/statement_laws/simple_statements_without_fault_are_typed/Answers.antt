-- The answers to the goals of `statement_laws::simple_statements_without_fault_are_typed`.
use Rattle.law_typing.proofs.StatementLaws.{settled_simple}
use Rattle.law_typing.proofs.statement_laws.simple_statements_without_fault_are_typed.Goals as goal

pub returns : goal.returns
returns c = λ w s a h. settled_simple w s a h
