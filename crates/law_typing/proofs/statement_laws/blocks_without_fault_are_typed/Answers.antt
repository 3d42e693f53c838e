-- The answers to the goals of `statement_laws::blocks_without_fault_are_typed`.
use Rattle.law_typing.proofs.StatementLaws.{settled_block}
use Rattle.law_typing.proofs.statement_laws.blocks_without_fault_are_typed.Goals as goal

pub returns : goal.returns
returns c = λ w results s x h. settled_block w results s x h
