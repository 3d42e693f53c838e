-- The laws of this crate, by those of scopes and of verdicts after a move.
use Rattle.law_moves.proofs.Laws.{moves_keep_names}
use Rattle.law_moves.proofs.ImportsFollow.{same_bindings}
use Rattle.law_moves.proofs.MovedScopesLaws.{lost}
use Rattle.law_moves.proofs.NamesMove.{scoped_move}
use Rattle.law_moves.specs.MovedVerdicts.{FreeTargetsSwap, MovesHaveVerdicts, MovesStaySound, PackagesAreCheckedThere, PackagesStayBound}
use Rattle.law_moves.specs.MovedVerdicts.{SameTargetsSwap}
use Rattle.law_moves.proofs.MovedVerdictsLaws.{packages, stays_sound, verdicts}
use Rattle.law_moves.proofs.Swapped.{free_swap, same_target}
use Rattle.law_moves.specs.Agreement.{FirstConflictsDecideMoves, MoveConflictsAreTold, MovesAgree, MovesAreChecked}
use Rattle.law_moves.proofs.MoveAgreementLaws.{agrees, decides, tells}
use Rattle.law_moves.proofs.FromVerdicts.{checked_by, stay_bound}

-- what the verdicts after a move are told by
record AreVerdictLaws : Type 0 where
  free : FreeTargetsSwap
  same : SameTargetsSwap
  right : PackagesStayBound → MovesHaveVerdicts
  sound : PackagesStayBound → MovesStaySound
  packages : PackagesStayBound → PackagesAreCheckedThere

checked_from : AreVerdictLaws → PackagesStayBound → MovesAreChecked
checked_from laws bound = checked_by laws.free laws.same (laws.right bound) (laws.sound bound) (laws.packages bound)

pub bound : PackagesStayBound
bound = stay_bound scoped_move lost same_bindings moves_keep_names

pub are_checked : MovesAreChecked
are_checked = checked_from (record { free = free_swap; same = same_target; right = verdicts; sound = stays_sound; packages = packages }) bound

pub agree : MovesAgree
agree = agrees are_checked

pub told : MoveConflictsAreTold
told = tells are_checked

pub decide : FirstConflictsDecideMoves
decide = decides are_checked
