-- The answers to the goals of `place_laws::statements_declare_what_is_found`.
use Rattle.law_typing.proofs.PlaceLaws.{outcomes}
use Rattle.law_typing.proofs.StatementFaults.{statement_told}
use Rattle.law_typing.proofs.place_laws.statements_declare_what_is_found.Goals as goal

pub returns : goal.returns
returns c = λ w results s x after. outcomes (statement_told w results) s x after
