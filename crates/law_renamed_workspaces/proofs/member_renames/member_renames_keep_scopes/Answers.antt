-- The answers to the goals of `member_renames::member_renames_keep_scopes`.
use Rattle.law_renamed_workspaces.proofs.ScopesKept.{scopes_kept, names_stay, members_decide}
use Rattle.law_renamed_workspaces.proofs.member_renames.member_renames_keep_scopes.Goals as goal

pub returns : goal.returns
returns c = record { scopes = scopes_kept; stay = names_stay; decide = members_decide }
