-- The answer to the goal of `members::methods_follow`.
use Rattle.law_changed_types.proofs.Alike.{of_bound}
use Rattle.law_renamed_workspaces.proofs.CountingMembers.{counting_method}
use Rattle.law_renamed_workspaces.proofs.members.methods_follow.Goals as goal

pub returns : goal.returns
returns c = λ w known r p q is relaid alike seen definition name rank h.
    counting_method w known r p q is relaid (of_bound p q alike) seen definition name rank h
