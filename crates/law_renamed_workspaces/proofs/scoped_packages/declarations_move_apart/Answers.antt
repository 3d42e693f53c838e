-- The answers to the goals of `scoped_packages::declarations_move_apart`.
use Rattle.law_renamed_workspaces.proofs.DeclaredApart.{stand_apart}
use Rattle.law_renamed_workspaces.proofs.MovedApart.{move_apart}
use Rattle.law_renamed_workspaces.proofs.scoped_packages.declarations_move_apart.Goals as goal

pub returns : goal.returns
returns c = record { place = stand_apart; moved = move_apart }
