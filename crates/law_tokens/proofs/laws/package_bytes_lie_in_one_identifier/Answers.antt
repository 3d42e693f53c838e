-- The answers to the goals of `laws::package_bytes_lie_in_one_identifier`.
use Rattle.law_tokens.proofs.OwnPaths.{package_byte}
use Rattle.law_tokens.proofs.laws.package_bytes_lie_in_one_identifier.Goals as goal

pub returns : goal.returns
returns c = λ w path ts parsed names file offset u v lu lv h k. package_byte w path ts parsed names file offset u v lu lv h k
