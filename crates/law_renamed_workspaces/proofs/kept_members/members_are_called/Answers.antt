-- The answers to the goals of `kept_members::members_are_called`.
use Rattle.law_renamed_workspaces.proofs.Called.{identifiers, fields, methods}
use Rattle.law_renamed_workspaces.proofs.OtherNames.{other_fields, other_methods}
use Rattle.law_renamed_workspaces.proofs.kept_members.members_are_called.Goals as goal

pub returns : goal.returns
returns c = record { identifiers = identifiers; fields = fields; methods = methods; other_fields = other_fields; other_methods = other_methods }
