-- The answers to the goals of `member_uses::files_ask_for_their_uses`.
use Rattle.law_changed_types.proofs.FileUses.{files_ask}
use Rattle.law_changed_types.proofs.member_uses.files_ask_for_their_uses.Goals as goal

pub returns : goal.returns
returns c = files_ask
