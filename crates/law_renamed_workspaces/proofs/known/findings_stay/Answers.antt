-- The answer to the goal of `known::findings_stay`.
use Rattle.law_renamed_workspaces.proofs.KnownVerdictsLaws.{findings}
use Rattle.law_renamed_workspaces.proofs.known.findings_stay.Goals as goal

pub returns : goal.returns
returns c = findings
