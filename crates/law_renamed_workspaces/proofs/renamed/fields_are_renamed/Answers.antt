-- The answer to the goal of `renamed::fields_are_renamed`.
use Rattle.law_renamed_workspaces.proofs.RenamedLaws.{fields_are_renamed}
use Rattle.law_renamed_workspaces.proofs.renamed.fields_are_renamed.Goals as goal

pub returns : goal.returns
returns c = fields_are_renamed
