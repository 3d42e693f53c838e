-- The answers to the goals of `statement_laws::declarations_without_fault_are_typed`.
use Rattle.law_typing.proofs.StatementLaws.{settled_decl}
use Rattle.law_typing.proofs.statement_laws.declarations_without_fault_are_typed.Goals as goal

pub returns : goal.returns
returns c = λ w b s d h. settled_decl w b s d h
