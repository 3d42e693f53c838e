-- The answers to the goals of `place_laws::simple_statements_declare_what_is_found`.
use Rattle.law_typing.proofs.PlaceLaws.{outcomes}
use Rattle.law_typing.proofs.SimpleFaults.{simple_told}
use Rattle.law_typing.proofs.place_laws.simple_statements_declare_what_is_found.Goals as goal

pub returns : goal.returns
returns c = λ w s a after. outcomes (simple_told w) s a after
