-- The answers to the goals of `recut::renamed_tokens_are_moved`.
use Rattle.go_respelled.proofs.MovedTokens.{tokens_moved}
use Rattle.go_respelled.proofs.recut.renamed_tokens_are_moved.Goals as goal

pub returns : goal.returns
returns c = tokens_moved
