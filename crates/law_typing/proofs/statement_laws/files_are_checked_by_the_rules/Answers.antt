-- The answers to the goals of `statement_laws::files_are_checked_by_the_rules`.
use Rattle.law_typing.proofs.StatementLaws.{file_law}
use Rattle.law_typing.proofs.statement_laws.files_are_checked_by_the_rules.Goals as goal

pub returns : goal.returns
returns c = λ w b f n. file_law w b f n
