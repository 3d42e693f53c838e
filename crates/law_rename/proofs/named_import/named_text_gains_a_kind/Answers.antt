-- The answer to the goal of `named_import::named_text_gains_a_kind`.
use Rattle.law_rename.proofs.Gaining.{gained_kinds}
use Rattle.law_rename.proofs.named_import.named_text_gains_a_kind.Goals as goal

pub returns : goal.returns
returns c = gained_kinds
