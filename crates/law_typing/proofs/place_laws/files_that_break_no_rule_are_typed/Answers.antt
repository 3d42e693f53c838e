-- The answers to the goals of `place_laws::files_that_break_no_rule_are_typed`.
use Rattle.law_typing.proofs.PlaceLaws.{unbroken_typed}
use Rattle.law_typing.proofs.place_laws.files_that_break_no_rule_are_typed.Goals as goal

pub returns : goal.returns
returns c = λ w is_init f n. unbroken_typed w is_init f n
