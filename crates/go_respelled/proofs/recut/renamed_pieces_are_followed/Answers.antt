-- The answers to the goals of `recut::renamed_pieces_are_followed`.
use Rattle.go_respelled.proofs.Following.{follows_still}
use Rattle.go_respelled.proofs.recut.renamed_pieces_are_followed.Goals as goal

pub returns : goal.returns
returns c = follows_still
