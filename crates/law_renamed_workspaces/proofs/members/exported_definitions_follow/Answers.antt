-- The answer to the goal of `members::exported_definitions_follow`.
use Rattle.law_changed_types.proofs.Alike.{of_bound}
use Rattle.law_renamed_workspaces.proofs.DefinitionsAfter.{exported_definition}
use Rattle.law_renamed_workspaces.proofs.members.exported_definitions_follow.Goals as goal

pub returns : goal.returns
returns c = λ w known r p q is relaid alike seen i j before after rank.
    exported_definition w known r p q is relaid (of_bound p q alike) seen i j before after rank
