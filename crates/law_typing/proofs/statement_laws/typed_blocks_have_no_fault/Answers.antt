-- The answers to the goals of `statement_laws::typed_blocks_have_no_fault`.
use Rattle.law_typing.proofs.StatementLaws.{block_law}
use Rattle.law_typing.proofs.statement_laws.typed_blocks_have_no_fault.Goals as goal

pub returns : goal.returns
returns c = λ w results s x after h r. block_law w results s x after h r
