-- By the parts of the text.
use Rattle.base_edits.proofs.EditedText.{reversed_restore}
use Rattle.base_edits.proofs.laws.reversed_edits_restore.Goals as goal

pub returns : goal.returns
returns c = reversed_restore
