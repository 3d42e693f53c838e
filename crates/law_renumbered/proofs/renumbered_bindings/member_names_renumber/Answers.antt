-- The answer to the goal of `renumbered_bindings::member_names_renumber`.
use Rattle.law_renumbered.proofs.MemberNames.{member_names_renumber}
use Rattle.law_renumbered.proofs.renumbered_bindings.member_names_renumber.Goals as goal

pub returns : goal.returns
returns c = member_names_renumber
