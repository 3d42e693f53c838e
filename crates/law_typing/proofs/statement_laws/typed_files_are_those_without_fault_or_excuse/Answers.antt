-- The answers to the goals of `statement_laws::typed_files_are_those_without_fault_or_excuse`.
use Rattle.law_typing.proofs.StatementLaws.{typed_files}
use Rattle.law_typing.proofs.statement_laws.typed_files_are_those_without_fault_or_excuse.Goals as goal

pub returns : goal.returns
returns c = λ w is_init f. typed_files w is_init f
