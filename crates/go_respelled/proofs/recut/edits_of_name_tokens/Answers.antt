-- The answers to the goals of `recut::edits_of_name_tokens`.
use Rattle.go_respelled.proofs.ByTokens.{edits_of_tokens}
use Rattle.go_respelled.proofs.recut.edits_of_name_tokens.Goals as goal

pub returns : goal.returns
returns c = edits_of_tokens
