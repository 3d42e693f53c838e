-- The laws of this crate, by the laws of the crates below.
use Rattle.law_changed_types.proofs.FilesMove.{files_move}
use Rattle.law_changed_types.proofs.MovedTypesWorlds.{worlds_move}
use Rattle.law_moves.specs.MovedFindings.{AllKnownMove, FindingsMove, KnownVerdictsMove}
use Rattle.law_moves.specs.MovedVerdicts.{MovesHaveVerdicts, MovesStaySound, PackagesAreCheckedThere, PackagesStayBound}
use Rattle.law_moves.proofs.CheckedThere.{checked_there}
use Rattle.law_moves.proofs.MovedFindings.{all_move, finding_moves, known_moves, sound}
use Rattle.law_moves.proofs.MovedVerdicts.{are_right}

pub packages : PackagesStayBound → PackagesAreCheckedThere
packages bound w known from to s h swap none p is =
    let b = bound w known from to s h none p is in checked_there w known from to s h swap p b.0 is b.1

pub verdicts : PackagesStayBound → MovesHaveVerdicts
verdicts bound w known from to s h swap none =
    are_right worlds_move files_move w known from to s h swap (λ p is. bound w known from to s h none p is)

pub stays_sound : PackagesStayBound → MovesStaySound
stays_sound bound w known from to s h swap none =
    sound worlds_move files_move w known from to s h swap (λ p is. bound w known from to s h none p is)

pub findings : PackagesStayBound → FindingsMove
findings bound w known from to s h swap none =
    finding_moves worlds_move files_move w known from to s h swap (λ p is. bound w known from to s h none p is)

pub known_verdicts : PackagesStayBound → KnownVerdictsMove
known_verdicts bound w known from to s h swap none =
    known_moves worlds_move files_move w known from to s h swap (λ p is. bound w known from to s h none p is)

pub all_known : PackagesStayBound → AllKnownMove
all_known bound w known from to s h swap none =
    all_move worlds_move files_move w known from to s h swap (λ p is. bound w known from to s h none p is)
