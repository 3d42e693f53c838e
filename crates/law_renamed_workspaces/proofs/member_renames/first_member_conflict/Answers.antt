-- The answers to the goals of `member_renames::first_member_conflict`.
use Rattle.law_renamed_workspaces.proofs.OthersStay.{others_stay, stakes_decide, first_conflict}
use Rattle.law_renamed_workspaces.proofs.member_renames.first_member_conflict.Goals as goal

pub returns : goal.returns
returns c = record { others = others_stay; decide = stakes_decide; first = first_conflict }
