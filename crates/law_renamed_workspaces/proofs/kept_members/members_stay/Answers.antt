-- The answers to the goals of `kept_members::members_stay`.
use Rattle.law_renamed_workspaces.proofs.ScopeRenames.{fields_stay, methods_stay, members_stay}
use Rattle.law_renamed_workspaces.proofs.kept_members.members_stay.Goals as goal

pub returns : goal.returns
returns c = record { fields = fields_stay; methods = methods_stay; members = members_stay }
