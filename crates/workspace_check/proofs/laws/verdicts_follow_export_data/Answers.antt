-- The answers to the goals of `laws::verdicts_follow_export_data`.
use Rattle.workspace_check.proofs.Keeping.{verdicts_follow}
use Rattle.workspace_check.proofs.laws.verdicts_follow_export_data.Goals as goal

pub returns : goal.returns
returns c = verdicts_follow
