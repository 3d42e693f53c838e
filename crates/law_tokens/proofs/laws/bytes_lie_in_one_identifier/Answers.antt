-- The answers to the goals of `laws::bytes_lie_in_one_identifier`.
use Rattle.law_tokens.proofs.HeldBytes.{one_holds}
use Rattle.law_tokens.proofs.laws.bytes_lie_in_one_identifier.Goals as goal

pub returns : goal.returns
returns c = λ files cut own l size ordered path offset u v lu lv h k. one_holds files cut own l size ordered path offset u v lu lv h k
