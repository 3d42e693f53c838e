-- The answers to the goals of `statement_laws::files_without_fault_are_typed`.
use Rattle.law_typing.proofs.Declarations.{file_settled}
use Rattle.law_typing.proofs.statement_laws.files_without_fault_are_typed.Goals as goal

pub returns : goal.returns
returns c = λ w b f h. file_settled w b f h
