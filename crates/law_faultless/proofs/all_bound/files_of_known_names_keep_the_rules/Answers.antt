-- The answers to the goals of `all_bound::files_of_known_names_keep_the_rules`.
use Rattle.law_faultless.proofs.Rules.{keeps_rules}
use Rattle.law_faultless.proofs.all_bound.files_of_known_names_keep_the_rules.Goals as goal

pub returns : goal.returns
returns c = λ w sound known right worlds p is file uses a s resolved. keeps_rules w sound known right worlds p is file uses a s resolved
