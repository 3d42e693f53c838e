-- The answers to the goals of `scope_conflicts::scope_conflicts_are_told`.
use Rattle.law_agreement.proofs.Whole.{no_conflict, own_conflicts, behind_conflicts}
use Rattle.law_agreement.proofs.scope_conflicts.scope_conflicts_are_told.Goals as goal

pub returns : goal.returns
returns c = record { stays = no_conflict; own = own_conflicts; behind = behind_conflicts }
