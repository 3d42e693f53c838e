-- The answers to the goals of `statement_laws::statements_without_fault_are_typed`.
use Rattle.law_typing.proofs.StatementLaws.{settled_statement}
use Rattle.law_typing.proofs.statement_laws.statements_without_fault_are_typed.Goals as goal

pub returns : goal.returns
returns c = λ w results s x h. settled_statement w results s x h
