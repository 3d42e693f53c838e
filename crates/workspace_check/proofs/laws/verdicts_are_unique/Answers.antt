-- The answers to the goals of `laws::verdicts_are_unique`.
use Rattle.workspace_check.proofs.OneVerdict.{one_verdict}
use Rattle.workspace_check.proofs.laws.verdicts_are_unique.Goals as goal

pub returns : goal.returns
returns c = λ w p v u a b. one_verdict w p v u a b
