-- The answers to the goals of `statement_laws::typed_files_have_no_fault`.
use Rattle.law_typing.proofs.Declarations.{file_true}
use Rattle.law_typing.proofs.statement_laws.typed_files_have_no_fault.Goals as goal

pub returns : goal.returns
returns c = λ w b f r. file_true w b f r
