-- The answer to the goal of `members::fields_follow`.
use Rattle.law_renamed_workspaces.proofs.CountingMembers.{counting_field}
use Rattle.law_renamed_workspaces.proofs.members.fields_follow.Goals as goal

pub returns : goal.returns
returns c = λ w known r p q is relaid definition name rank. counting_field w known r p q is relaid definition name rank
