-- By the bytes of the new text from an offset on.
use Rattle.base_edits.proofs.MovedPlaces.{keeps_bytes, puts_bytes}
use Rattle.base_edits.proofs.laws.edits_keep_other_bytes.Goals as goal

pub returns-clause-kept : goal.returns-clause-kept
returns-clause-kept c = keeps_bytes

pub returns-clause-put : goal.returns-clause-put
returns-clause-put c = puts_bytes
