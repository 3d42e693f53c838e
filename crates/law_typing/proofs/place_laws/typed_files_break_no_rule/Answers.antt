-- The answers to the goals of `place_laws::typed_files_break_no_rule`.
use Rattle.law_typing.proofs.PlaceLaws.{typed_breaks_none}
use Rattle.law_typing.proofs.place_laws.typed_files_break_no_rule.Goals as goal

pub returns : goal.returns
returns c = λ w is_init f p t b. typed_breaks_none w is_init f p t b
