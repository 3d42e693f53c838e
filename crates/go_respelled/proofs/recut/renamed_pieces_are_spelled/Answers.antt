-- The answers to the goals of `recut::renamed_pieces_are_spelled`.
use Rattle.go_respelled.proofs.KeptBytes.{spelled_kept, spelled_put}
use Rattle.go_respelled.proofs.recut.renamed_pieces_are_spelled.Goals as goal

pub returns-clause-put : goal.returns-clause-put
returns-clause-put c = spelled_put

pub returns-clause-kept : goal.returns-clause-kept
returns-clause-kept c = spelled_kept
