-- The answers to the goals of `statement_laws::typed_declarations_have_no_fault`.
use Rattle.law_typing.proofs.StatementLaws.{decl_law}
use Rattle.law_typing.proofs.statement_laws.typed_declarations_have_no_fault.Goals as goal

pub returns : goal.returns
returns c = λ w b s d after h r. decl_law w b s d after h r
