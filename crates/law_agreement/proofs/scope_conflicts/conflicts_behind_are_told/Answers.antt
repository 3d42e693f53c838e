-- The answers to the goals of `scope_conflicts::conflicts_behind_are_told`.
use Rattle.law_agreement.proofs.Together.{none_behind}
use Rattle.law_agreement.proofs.Whole.{behind_stays, behind_told, others_behind_stay}
use Rattle.law_agreement.proofs.scope_conflicts.conflicts_behind_are_told.Goals as goal

pub returns : goal.returns
returns c = record { told = behind_told; others = others_behind_stay; stay = behind_stays; local = none_behind }
