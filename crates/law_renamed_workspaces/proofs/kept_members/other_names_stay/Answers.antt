-- The answers to the goals of `kept_members::other_names_stay`.
use Rattle.law_renamed_workspaces.proofs.Called.{names}
use Rattle.law_renamed_workspaces.proofs.ScopeRenames.{field_names_stay, method_names_stay}
use Rattle.law_renamed_workspaces.proofs.kept_members.other_names_stay.Goals as goal

pub returns : goal.returns
returns c = record { names = names; fields = field_names_stay; methods = method_names_stay }
