-- The answer to the goal of `renumbered_bindings::used_members_renumber`.
use Rattle.law_renumbered.proofs.UsedMembers.{used_members_renumber}
use Rattle.law_renumbered.proofs.renumbered_bindings.used_members_renumber.Goals as goal

pub returns : goal.returns
returns c = used_members_renumber
