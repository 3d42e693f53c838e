-- The answer to the goal of `named_workspaces::no_import_fault_comes`.
use Rattle.law_gained_names.proofs.Outer.{no_import_fault_comes}
use Rattle.law_gained_names.proofs.named_workspaces.no_import_fault_comes.Goals as goal

pub returns : goal.returns
returns c = no_import_fault_comes
