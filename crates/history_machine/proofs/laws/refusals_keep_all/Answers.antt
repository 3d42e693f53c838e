-- The answers to the goals of `laws::refusals_keep_all`.
use Rattle.history_machine.proofs.NumberLaws.{refusals_keep_all}
use Rattle.history_machine.proofs.laws.refusals_keep_all.Goals as goal

pub returns : goal.returns
returns c = refusals_keep_all
