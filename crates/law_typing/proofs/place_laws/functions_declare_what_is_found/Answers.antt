-- The answers to the goals of `place_laws::functions_declare_what_is_found`.
use Rattle.law_typing.proofs.PlaceLaws.{outcomes}
use Rattle.law_typing.proofs.HeaderFaults.{function_told}
use Rattle.law_typing.proofs.place_laws.functions_declare_what_is_found.Goals as goal

pub returns : goal.returns
returns c = λ w is_init s f after. outcomes (function_told w is_init) s f after
