-- The answer to the goal of `named_workspaces::gained_names_are_judged`.
use Rattle.law_gained_names.proofs.Judged.{gained_names_are_judged}
use Rattle.law_gained_names.proofs.named_workspaces.gained_names_are_judged.Goals as goal

pub returns : goal.returns
returns c = gained_names_are_judged
