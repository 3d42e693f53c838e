-- The answer to the goal of `named_workspaces::no_scope_fault_comes`.
use Rattle.law_gained_names.proofs.Scopes.{no_scope_fault_comes}
use Rattle.law_gained_names.proofs.named_workspaces.no_scope_fault_comes.Goals as goal

pub returns : goal.returns
returns c = no_scope_fault_comes
