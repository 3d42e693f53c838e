-- The answer to the goal of `named_workspaces::no_unknown_name_comes`.
use Rattle.law_gained_names.proofs.Unknown.{no_unknown_name_comes}
use Rattle.law_gained_names.proofs.named_workspaces.no_unknown_name_comes.Goals as goal

pub returns : goal.returns
returns c = no_unknown_name_comes
