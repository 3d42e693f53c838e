-- The answers to the goals of `all_used::links_of_typed_files_are_used`.
use Rattle.law_faultless.proofs.FilesUsed.{all_linked}
use Rattle.law_faultless.proofs.all_used.links_of_typed_files_are_used.Goals as goal

pub returns : goal.returns
returns c = λ w is_init f is typed s. all_linked w is_init f is typed s
