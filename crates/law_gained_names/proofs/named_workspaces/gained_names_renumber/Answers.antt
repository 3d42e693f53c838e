-- The answer to the goal of `named_workspaces::gained_names_renumber`.
use Rattle.law_gained_names.proofs.NamedWorkspacesLaws.{gained_names_renumber}
use Rattle.law_gained_names.proofs.named_workspaces.gained_names_renumber.Goals as goal

pub returns : goal.returns
returns c = gained_names_renumber
