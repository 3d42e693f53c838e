-- The answers to the goals of `recut::renamed_kinds_stay`.
use Rattle.go_respelled.proofs.Trees.{kinds_stay}
use Rattle.go_respelled.proofs.recut.renamed_kinds_stay.Goals as goal

pub returns : goal.returns
returns c = kinds_stay
