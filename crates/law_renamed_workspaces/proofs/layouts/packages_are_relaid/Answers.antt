-- The answer to the goal of `layouts::packages_are_relaid`.
use Rattle.law_renamed_workspaces.proofs.Relaid.{packages_are}
use Rattle.law_renamed_workspaces.proofs.layouts.packages_are_relaid.Goals as goal

pub returns : goal.returns
returns c = packages_are
