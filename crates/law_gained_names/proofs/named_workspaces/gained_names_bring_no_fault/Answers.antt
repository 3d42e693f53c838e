-- The answer to the goal of `named_workspaces::gained_names_bring_no_fault`.
use Rattle.law_gained_names.proofs.Judged.{gained_names_bring_no_fault}
use Rattle.law_gained_names.proofs.named_workspaces.gained_names_bring_no_fault.Goals as goal

pub returns : goal.returns
returns c = gained_names_bring_no_fault
