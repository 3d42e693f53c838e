-- The answers to the goals of `renumbered_workspaces::renumbered_workspaces_keep_bindings`.
use Rattle.law_renumbered.proofs.Keeping.{renumbered_workspaces_are_steps, renumbered_workspaces_keep_bindings}
use Rattle.law_renumbered.proofs.renumbered_workspaces.renumbered_workspaces_keep_bindings.Goals as goal

pub returns : goal.returns
returns c = record { bindings = renumbered_workspaces_keep_bindings; steps = renumbered_workspaces_are_steps }
