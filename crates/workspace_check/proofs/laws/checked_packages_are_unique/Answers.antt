-- The answers to the goals of `laws::checked_packages_are_unique`.
use Rattle.workspace_check.proofs.OneVerdict.{checked_as_one}
use Rattle.workspace_check.proofs.laws.checked_packages_are_unique.Goals as goal

pub returns : goal.returns
returns c = λ w p a b right also x y h k. checked_as_one w p a b right also x y h k
