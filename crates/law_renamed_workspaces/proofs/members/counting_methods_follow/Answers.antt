-- The answer to the goal of `members::counting_methods_follow`.
use Rattle.law_changed_types.proofs.Alike.{of_bound}
use Rattle.law_renamed_workspaces.proofs.CountingMembers.{counts_before}
use Rattle.law_renamed_workspaces.proofs.members.counting_methods_follow.Goals as goal

pub returns : goal.returns
returns c = λ w known r p q is relaid alike fields definition name rank f h.
    counts_before w known r p q is relaid (of_bound p q alike) fields definition name rank f h
