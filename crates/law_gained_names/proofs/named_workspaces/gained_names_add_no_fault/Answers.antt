-- The answer to the goal of `named_workspaces::gained_names_add_no_fault`.
use Rattle.law_gained_names.proofs.NamedWorkspacesWhole.{gained_names_add_no_fault}
use Rattle.law_gained_names.proofs.named_workspaces.gained_names_add_no_fault.Goals as goal

pub returns : goal.returns
returns c = gained_names_add_no_fault
