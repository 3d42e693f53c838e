-- The answer to the goal of `verdicts::no_fault_comes`.
use Rattle.law_renamed_workspaces.proofs.Laws.{no_fault}
use Rattle.law_renamed_workspaces.proofs.verdicts.no_fault_comes.Goals as goal

pub returns : goal.returns
returns c = no_fault
