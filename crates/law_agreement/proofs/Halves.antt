-- The agreement from its halves, and what follows from the first half alone.
use Rattle.std.proofs.Common.{subst}
use Rattle.base_edits.specs.RevisionsOfEdits.{revision_of}
use Rattle.refactor_conflict.specs.Conflicts.{IsFirstConflict}
use Rattle.law_agreement.specs.Agreement.{AgreementTellsConflicts, HalvesAgree}

pub conflict_told : AgreementTellsConflicts
conflict_told keeps w known d name s rename same lost told first none =
    lost (keeps w known d name s rename (record { none_lost = subst (IsFirstConflict w known (revision_of w s)) none first; implementing = same }))

pub halves_agree : HalvesAgree
halves_agree keeps loses w known d name s rename same =
    ((λ none. keeps w known d name s rename (record { none_lost = none; implementing = same })), (λ k. loses w known d name s rename k (same k.after)))
