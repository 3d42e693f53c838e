-- The answers to the goals of `recut::renamed_tokens_are_spelled`.
use Rattle.go_respelled.proofs.Spelled.{token_kept, token_put}
use Rattle.go_respelled.proofs.recut.renamed_tokens_are_spelled.Goals as goal

pub returns-clause-put : goal.returns-clause-put
returns-clause-put c = token_put

pub returns-clause-kept : goal.returns-clause-kept
returns-clause-kept c = token_kept
