-- The answer to the goal of `named_import::named_text_gains_a_token`.
use Rattle.law_rename.proofs.Gaining.{gained_tokens}
use Rattle.law_rename.proofs.named_import.named_text_gains_a_token.Goals as goal

pub returns : goal.returns
returns c = gained_tokens
